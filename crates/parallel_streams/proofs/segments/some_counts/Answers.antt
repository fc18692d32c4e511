use Rattle.std.proofs.Common.{List, ℤ, pos}
use Rattle.collectors.specs.Laws.{IsContainerOf}
use Rattle.collectors.specs.Sums.{add_number}
use Rattle.parallel_streams.proofs.Searching.{found-counts}
use Rattle.parallel_streams.proofs.segments.some_counts.Goals as goal

pub returns : goal.returns
returns g c =
    let made : List g.row.X-Item-Content.Denot → ℤ → Type 0 = IsContainerOf g.X.Item.Value.is_value (λ n. n) (pos 0) (add_number (λ _. pos 1)) in
    found-counts (g.D.Demand.counted c.args.demand.now) made (g.X.Plumbing.value c.args.stream.now) c.in_ok-is_hit.field-0-0 c.in_ok-is_hit.is_hit c.in_ok-is_hit.ensures.found
