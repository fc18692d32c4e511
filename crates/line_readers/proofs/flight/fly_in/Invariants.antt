use Rattle.std.proofs.Common.{◌≡◌, true, List, ℕ, Option, Result, string_bytes}
use Rattle.std.specs.Io.KnownBytes.{IsAtEnd, prepend_known}
use Rattle.collectors.specs.Laws.{IsContainerOf}
use Rattle.line_blocks.specs.Blocks.{IsFolded, TakesBlock}
use Rattle.line_blocks.specs.Faults.{StandsAt}
use Rattle.line_readers.specs.Flights.{IsFlying}
use Rattle.line_readers.specs.Values.{values_of}
use Rattle.std.specs.declared.thread.PromisedHandle.{PromisedHandle}
use Rattle.spliterator.specs.declared.no_memory.NoMemory.{NoMemory}
use Rattle.line_readers.specs.declared.flight.Owed.{Owed}
use Rattle.line_readers.specs.declared.flight.Passing.{Passing}
use Rattle.line_readers.proofs.flight.fly_in.Given as goal

-- what the blocks so far become, behind what was there before
abbrev pub flying : (g : goal.Over) → Passing g.row.F.Denot g.row.G.Denot g.row.C.Denot → List g.row.G-Out-Content.Denot → List (List ℕ) → g.row.C-Acc.Denot
    → List (PromisedHandle (Result g.row.C-Acc.Denot NoMemory) (Owed g.row.F.Denot g.row.G.Denot g.row.C.Denot)) → Type 0
flying g own before lines whole at_work =
    let it = own.collector.now in
    let made = IsContainerOf g.G.Out.Value.is_value (g.C.Collector.content it) (g.C.Collector.empty it) (g.C.Collector.add it) in
    let values = values_of (g.F.LineFunction.image own.function.now) (g.G.Stage.expand own.stage.now) in
    IsFlying made values (λ w. w.promise.passing.now ≡ own) (λ w. string_bytes w.promise.text.value) before lines whole at_work

-- the blocks that are at work stand behind what was taken in, and the block that was read behind them
abbrev pub invariant-loop : goal.invariant-loop
invariant-loop g l =
    let it = l.passing.collector.now in
    let made = IsContainerOf g.G.Out.Value.is_value (g.C.Collector.content it) (g.C.Collector.empty it) (g.C.Collector.add it) in
    let first = prepend_known l.fn.ahead.0.rest.items (g.I.Read.remaining l.fn.ahead.0.reader) in
    let left = prepend_known l.blocks.rest.items (g.I.Read.remaining l.blocks.reader) in
    record {
      flies : (before : List g.row.G-Out-Content.Denot) → made before l.fn.whole → (known : Option (List ℕ)) → TakesBlock known (string_bytes l.fn.ahead.1.text) first
          → (ahead : Option (List ℕ)) × IsFolded (λ lines flight. flying g l.passing before lines flight.whole flight.at_work.items) known l.flight ahead × TakesBlock ahead (string_bytes l.block.text) left;
      stands : (all : Option (List ℕ)) → StandsAt all first l.fn.ahead.0.place → StandsAt all left l.blocks.place;
      longest : l.blocks.longest ≡ l.fn.ahead.0.longest;
      last : l.block.is_last ≡ true → IsAtEnd left;
    }
