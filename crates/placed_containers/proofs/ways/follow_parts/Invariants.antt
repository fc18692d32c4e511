use Rattle.std.proofs.Common.{◌≡◌, ℕ, List}
use Rattle.std.specs.Prelude.{All}
use Rattle.collectors.specs.Laws.{IsContainerOf}
use Rattle.placed_containers.specs.Parts.{IsPart, Joins}
use Rattle.placed_containers.specs.Ways.{IsStop, LeadsOn, end_of}
use Rattle.placed_containers.proofs.ways.follow_parts.Given as goal

-- the piece begins at 0, and where all lead on, those that are left do so from its end
abbrev pub invariant-loop-part : goal.invariant-loop-part
invariant-loop-part g l =
    let C = g.C.Collector in
    let it = l.collector in
    let made = IsContainerOf g.C.Item.Value.is_value (C.content it) (C.empty it) (C.add it) in record {
      can_next : (goal.iterator-loop-part g).can_next l.part-iterator;
      is_finite : (goal.iterator-loop-part g).is_finite l.part-iterator;
      begin : l.piece.places.from ≡ 0;
      part : (between : ℕ → ℕ → List g.row.C-Item-Content.Denot) → Joins between → All (IsPart made between l.of) l.fn.parts.items
          → IsPart made between l.of l.piece × All (IsPart made between l.of) l.part-iterator.rest.items;
      end : LeadsOn l.of l.fn.parts.items → IsStop l.of l.fn.parts.items 0
          → LeadsOn l.of l.part-iterator.rest.items × IsStop l.of l.part-iterator.rest.items (end_of l.piece);
    }
