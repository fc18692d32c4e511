use Rattle.std.proofs.Common.{◌≡◌, ◌++◌, List, None, map, subst, sym, ap, ◌∙◌, rules}
use Rattle.std.proofs.lemmas.List.{map-append, take-append-drop}
use Rattle.stages.specs.Distinct.{distinct_after}
use Rattle.barriers.specs.Thinned.{IsThinned, thinned-both}
use Rattle.barriers.proofs.distinct.thin_distinct.Goals as goal

pub returns : goal.returns
returns g c =
    let content = g.T.Value.content in
    let value = distinct_after g.T.Value.same (map content c.args.came.now.keys) in
    let sample = c.replace-sample.result.items in
    let others = c.in_ok-others.others.items in
    let n = c.min.result in
    let all : sample ++ others ≡ c.args.items.now.items = search (rules, take-append-drop n c.args.items.now.items) in
    let whole : map content sample ++ map content others ≡ map content c.args.items.now.items = sym (map-append content sample others) ∙ ap (map content) all in
    let kept : map content c.in_ok-items.field-0.items ++ map content c.in_ok-rest.rest.items ≡ map content c.append.new.self.items =
    sym (ap (map content) c.in_ok-append.ensures.items ∙ map-append content c.in_ok-items.field-0.items c.in_ok-rest.rest.items) in
    let both = thinned-both value None (map content sample) (map content others) (map content c.in_ok-items.field-0.items) (map content c.in_ok-rest.rest.items) c.in_ok-items.ensures c.in_ok-rest.ensures in
    let Q : List _ → List _ → Type 0 = λ l k. IsThinned None value l k in
    subst (λ k. Q (map content c.args.items.now.items) k) kept (subst (λ l. Q l (map content c.in_ok-items.field-0.items ++ map content c.in_ok-rest.rest.items)) whole both)
