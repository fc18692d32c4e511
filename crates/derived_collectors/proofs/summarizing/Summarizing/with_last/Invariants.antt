use Rattle.std.proofs.Common.{◌≡◌, map, take, fold}
use Rattle.derived_collectors.specs.Facts.{add_facts}
use Rattle.derived_collectors.specs.Summaries.{told}
use Rattle.derived_collectors.proofs.summarizing.Summarizing.with_last.Given as goal

abbrev pub invariant-loop-item : goal.invariant-loop-item
invariant-loop-item g l = told l.summary ≡ fold (add_facts (g.M.Mapping.image l.self.number)) (told l.initial.summary) (map g.T.Value.content (take l.item-index l.items))
