use Rattle.std.proofs.Common.{◌≡◌, ◌++◌, ℕ, List, All, IsTrue}
use Rattle.std.specs.List.{AllZip}
use Rattle.std.specs.Prelude.{string_bytes}
use Rattle.collectors.specs.Laws.{IsContainerOf}
use Rattle.wire_form.specs.Forms.{IsFormOf}
use Rattle.placed_containers.specs.OneLine.{is_one_line}
use Rattle.placed_containers.specs.Parts.{IsAt, IsPart, IsPartLine}
use Rattle.placed_containers.specs.Ways.{begin_of, end_of}
use Rattle.placed_containers.specs.declared.pieces.Part.{Part}
use Rattle.placed_containers.proofs.job.write_parts.Given as goal

-- what was written has no line feed; and where all are parts, what was written tells of parts, and what is left are parts
abbrev pub invariant-loop-part : goal.invariant-loop-part
invariant-loop-part g l =
    let C = g.C.Collector in
    let it = l.job.collector.now in
    let made = IsContainerOf g.C.Item.Value.is_value (C.content it) (C.empty it) (C.add it) in
    let tells = IsFormOf g.C.Item.Value.is_value (C.content it) (C.empty it) (C.add it) (g.C.WireForm.form it) in record {
      can_next : (goal.iterator-loop-part g).can_next l.part-iterator;
      is_finite : (goal.iterator-loop-part g).is_finite l.part-iterator;
      one_line : All (λ line. IsTrue (is_one_line (string_bytes line))) l.lines.items;
      places : (front : List (Part g.row.C-Acc.Denot)) × (l.fn.parts.items ≡ front ++ l.part-iterator.rest.items)
          × AllZip (λ part line. IsAt l.job.name.now (begin_of part) (end_of part) part.places.of (string_bytes line)) front l.lines.items;
      lines : (between : ℕ → ℕ → List g.row.C-Item-Content.Denot) (n : ℕ) → All (IsPart made between n) l.fn.parts.items
          → All (λ line. IsPartLine tells l.job.name.now between n (string_bytes line)) l.lines.items
          × All (IsPart made between n) l.part-iterator.rest.items;
    }
