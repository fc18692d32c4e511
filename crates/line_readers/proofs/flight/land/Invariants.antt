use Rattle.std.proofs.Common.{◌≡◌, List, ℕ, length, string_bytes}
use Rattle.collectors.specs.Laws.{IsContainerOf}
use Rattle.line_readers.specs.Flights.{IsFlying}
use Rattle.line_readers.specs.Values.{values_of}
use Rattle.line_readers.proofs.flight.land.Given as goal

abbrev pub decreases-loop-handle : goal.decreases-loop-handle
decreases-loop-handle g l = length l.flight.at_work.items

-- the blocks that are left are at work behind what was taken in
abbrev pub invariant-loop-handle : goal.invariant-loop-handle
invariant-loop-handle g l =
    let own = l.fn.passing in
    let it = own.collector.now in
    let made = IsContainerOf g.G.Out.Value.is_value (g.C.Collector.content it) (g.C.Collector.empty it) (g.C.Collector.add it) in
    let values = values_of (g.F.LineFunction.image own.function.now) (g.G.Stage.expand own.stage.now) in
    (before : List g.row.G-Out-Content.Denot) → (lines : List (List ℕ))
    → IsFlying made values (λ w. w.promise.passing.now ≡ own) (λ w. string_bytes w.promise.text.value) before lines l.fn.flight.whole l.fn.flight.at_work.items
    → IsFlying made values (λ w. w.promise.passing.now ≡ own) (λ w. string_bytes w.promise.text.value) before lines l.flight.whole l.flight.at_work.items
