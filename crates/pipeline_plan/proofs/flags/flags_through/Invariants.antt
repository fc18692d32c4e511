use Rattle.std.proofs.Common.{List, take}
use Rattle.pipeline_meaning.specs.Stages.{stages_list}
use Rattle.pipeline_plan.specs.PlanFlags.{AreFlags}
use Rattle.pipeline_plan.proofs.flags.flags_through.Given as goal

abbrev pub invariant-loop-stage : goal.invariant-loop-stage
invariant-loop-stage g l =
    (items : List g.row.K-Item-Content.Denot) → AreFlags g.K.Item.OrderedValue.order l.fn.flags items → AreFlags g.K.Item.OrderedValue.order l.behind (stages_list g.K.Kind.means (take l.stage-index l.stages) items)
