use Rattle.std.proofs.Common.{subst}
use Rattle.pipeline_value.specs.Value.{Tells, strict_told}
use Rattle.pipeline_value.proofs.maps.strict_value.Goals as goal

pub returns : goal.returns
returns g c =
    let l = g.X.Plumbing.value c.args.stream.now in
    let strict = c.with_hasher-strict in
    let told = c.told_strict.ensures l c.in_ok-made.ensures.value in
    let by_value = subst (λ v. Tells (strict_told g.K.Out.Spelled.spelling g.V.Out.Spelled.spelling g.K.Out.Value.same (g.K.Mapping.image strict.result.key) (g.V.Mapping.image v) l) c.told_strict.result) strict.ensures.value told in
    subst (λ k. Tells (strict_told g.K.Out.Spelled.spelling g.V.Out.Spelled.spelling g.K.Out.Value.same (g.K.Mapping.image k) (g.V.Mapping.image c.args.value) l) c.told_strict.result) strict.ensures.key by_value
