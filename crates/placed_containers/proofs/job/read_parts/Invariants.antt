use Rattle.std.proofs.Common.{ℕ, List, All, take}
use Rattle.std.specs.List.{AllZip}
use Rattle.collectors.specs.Laws.{IsContainerOf}
use Rattle.wire_form.specs.Forms.{IsFormOf}
use Rattle.placed_containers.specs.Parts.{IsAt, IsOfJob, IsPart, IsPartLine}
use Rattle.placed_containers.specs.Ways.{begin_of, end_of}
use Rattle.placed_containers.proofs.job.read_parts.Given as goal

-- the lines so far are the job's; and where all lines are those of parts, what was read are parts
abbrev pub invariant-loop-at : goal.invariant-loop-at
invariant-loop-at g l =
    let C = g.C.Collector in
    let it = l.job.collector.now in
    let made = IsContainerOf g.C.Item.Value.is_value (C.content it) (C.empty it) (C.add it) in
    let tells = IsFormOf g.C.Item.Value.is_value (C.content it) (C.empty it) (C.add it) (g.C.WireForm.form it) in record {
      own : All (λ line. IsOfJob l.job.name.now line.now) (take l.at l.lines);
      places : AllZip (λ part line. IsAt l.job.name.now (begin_of part) (end_of part) part.places.of line.now) l.parts.items (take l.at l.lines);
      parts : (between : ℕ → ℕ → List g.row.C-Item-Content.Denot) (n : ℕ) → All (λ line. IsPartLine tells l.job.name.now between n line.now) l.lines
          → All (IsPart made between n) l.parts.items;
    }
