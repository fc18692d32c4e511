use Rattle.std.proofs.Common.{◌≡◌, map, take, fold}
use Rattle.derived_collectors.specs.Facts.{add_facts}
use Rattle.derived_collectors.specs.Summaries.{told_of}
use Rattle.derived_collectors.proofs.summarizing.Summarizing.with_halves.Given as goal

abbrev pub invariant-loop-at : goal.invariant-loop-at
invariant-loop-at g l =
    (told_of l.early ≡ fold (add_facts (g.M.Mapping.image l.self.number)) (told_of l.initial.early) (map g.T.Value.content (take l.at l.front)))
    × (told_of l.late ≡ fold (add_facts (g.M.Mapping.image l.self.number)) (told_of l.initial.late) (map g.T.Value.content (take l.at l.back)))
