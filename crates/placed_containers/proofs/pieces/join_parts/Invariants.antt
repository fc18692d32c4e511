use Rattle.std.proofs.Common.{◌<◌, ◌≤◌, ◌⊎◌, ℕ, List, length, reverse, vec_len}
use Rattle.std.specs.Prelude.{All, IsSome}
use Rattle.collectors.specs.Laws.{IsContainerOf}
use Rattle.placed_containers.specs.Parts.{IsPart, Joins}
use Rattle.placed_containers.specs.Ways.{AllPieces, HasPart, HaveLength, IsFalling, IsLongestWay, all_of, begin_of, end_of}
use Rattle.placed_containers.proofs.pieces.join_parts.Given as goal

-- the pieces, and the parts that are left, lead where all parts did
abbrev pub invariant-loop-part : goal.invariant-loop-part
invariant-loop-part g l =
    let C = g.C.Collector in
    let it = l.collector in
    let made = IsContainerOf g.C.Item.Value.is_value (C.content it) (C.empty it) (C.add it) in record {
      falling : IsFalling l.parts.items;
      made : (between : ℕ → ℕ → List g.row.C-Item-Content.Denot) (n : ℕ) → Joins between → All (IsPart made between n) l.fn.parts.items
          → All (IsPart made between n) l.parts.items × AllPieces (IsPart made between n) l.pieces;
      within : All (λ part. begin_of part ≤ end_of part) l.fn.parts.items
          → All (λ part. begin_of part ≤ end_of part) l.parts.items × (0 < length l.parts.items → HaveLength l.pieces);
      longest : All (λ part. begin_of part ≤ end_of part) l.fn.parts.items → (p q : ℕ) → IsLongestWay (HasPart l.fn.parts.items) p q
          → IsLongestWay (HasPart (all_of l.pieces (reverse l.parts.items))) p q;
      some : 0 < length l.fn.parts.items → (0 < length l.parts.items) ⊎ IsSome l.pieces.open;
    }

abbrev pub decreases-loop-part : goal.decreases-loop-part
decreases-loop-part g l = vec_len l.parts
