use Rattle.std.proofs.Common.{◌≡◌, true, string_bytes, List, ℕ, Option}
use Rattle.std.specs.Io.KnownBytes.{IsAtEnd, prepend_known}
use Rattle.collectors.specs.Laws.{IsContainerOf}
use Rattle.line_blocks.specs.Blocks.{IsFolded, TakesBlock}
use Rattle.line_blocks.specs.Faults.{StandsAt}
use Rattle.line_readers.specs.declared.steps.LineSteps.{LineSteps}
use Rattle.line_readers.proofs.Behind.{Way, taken_of}
use Rattle.line_readers.proofs.reading.collect_lines.Given as goal

-- what its lines go through
abbrev pub way : (g : goal.Over) → LineSteps g.row.F.Denot g.row.A.Denot g.row.Q.Denot g.row.Q-Stages.Denot g.row.Z.Denot
    → Way g.row.F-Out-Content.Denot g.row.A-Out-Content.Denot g.row.Q-Out-Content.Denot g.row.Z-Out-Content.Denot g.row.Q-State.Denot
way g own = record {
  image = g.F.LineFunction.image own.function;
  first = g.A.Stage.expand own.first;
  whole = g.Q.Between.value own.barriers own.between;
  behind = g.Q.Between.value_behind own.barriers own.between;
  last = g.Z.Stage.expand own.last;
}

abbrev pub made : (g : goal.Over) → g.row.C.Denot → List g.row.Z-Out-Content.Denot → g.row.C-Acc.Denot → Type 0
made g it = IsContainerOf g.Z.Out.Value.is_value (g.C.Collector.content it) (g.C.Collector.empty it) (g.C.Collector.add it)

-- what was taken in is in the container, and the block that was read ahead stands before what is left
abbrev pub invariant-loop : goal.invariant-loop
invariant-loop g l =
    let taken = taken_of (way g l.fn.steps) (made g l.collector) in
    let all = g.I.Read.remaining l.fn.reader in
    let left = prepend_known l.blocks.rest.items (g.I.Read.remaining l.blocks.reader) in
    record {
      ahead : (before : Option (List ℕ)) × IsFolded taken all l.taken before × TakesBlock before (string_bytes l.block.text) left;
      stands : StandsAt all left l.blocks.place;
      longest : l.blocks.longest ≡ l.fn.longest;
      last : l.block.is_last ≡ true → IsAtEnd left;
    }
