use Rattle.std.proofs.Common.{Bool, ◌∙◌, sym, ap, subst}
use Rattle.std.specs.Option.{is_some}
use Rattle.collectors.specs.Laws.{IsContainerOf}
use Rattle.stealing_pool.specs.Spans.{joined}
use Rattle.parallel_streams.specs.Searches.{IsFound}
use Rattle.parallel_streams.proofs.Searching.{found-run}
use Rattle.parallel_streams.proofs.segments.search_segment.Goals as goal

pub returns-clause-found : goal.returns-clause-found
returns-clause-found g c =
    let C = g.C.Collector in
    let it = c.args.collector.now in
    let counted = g.D.Demand.counted c.args.demand.now in
    let parts = g.X.Plumbing.parts c.args.stream.now c.in_ok-progress.progress in
    let made = IsContainerOf g.X.Item.Value.is_value (C.content it) (C.empty it) (C.add it) in
    let found = found-run g.X.Item.Value.is_value (C.content it) (C.empty it) (C.add it) counted parts (g.D.Demand.needed c.args.demand.now) c.in_ok-acc.acc c.in_ok-acc.entry c.requires.one c.in_ok-acc.ensures in
    let P : Bool → Type 0 = λ b. IsFound counted made (joined parts) c.in_ok-acc.acc b in
    subst P (sym (c.is_some.ensures ∙ ap is_some c.cut.ensures)) found
