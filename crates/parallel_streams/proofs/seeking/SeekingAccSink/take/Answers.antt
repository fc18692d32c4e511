use Rattle.std.proofs.Common.{◌∙◌, Bool, [], ◌∷◌, refl, subst}
use Rattle.std.proofs.lemmas.Result.{on_ok_weaker}
use Rattle.collectors.specs.Laws.{IsContainerOf, container-push}
use Rattle.parallel_streams.specs.Searches.{IsFound}
use Rattle.parallel_streams.proofs.Searching.{found-taken, met-alone}
use Rattle.parallel_streams.proofs.seeking.SeekingAccSink.take.Goals as goal

pub returns-clause-taken : goal.returns-clause-taken
returns-clause-taken g c =
    let s = c.args.self.now in
    let it = s.collector.now in
    let x = g.T.Value.content c.args.x in
    let counted = g.D.Demand.counted s.demand.now in
    let is_value = g.T.Value.is_value in
    let made = IsContainerOf is_value (g.C.Collector.content it) (g.C.Collector.empty it) (g.C.Collector.add it) in
    let new = c.accumulate_owned.new.acc in
    on_ok_weaker c.accumulate_owned.result
    (λ added. (
      refl,
      refl,
      λ whole found.
          let P : Bool → Type 0 = λ b. IsFound counted made whole s.acc b in
          found-taken counted made whole (x ∷ []) [] s.acc new c.counts-self.result (subst P c.if-self.false found) (c.counts-self.ensures ∙ met-alone counted x) (λ missed. refl)
          (container-push is_value (g.C.Collector.content it) (g.C.Collector.empty it) (g.C.Collector.add it) whole x s.acc new c.is_value-value.ensures.value added),
    ))
    c.accumulate_owned.ensures
