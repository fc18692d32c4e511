use Rattle.std.proofs.Common.{◌<◌, length, take, List, ap, subst, sym, ◌∙◌}
use Rattle.std.proofs.lemmas.List.{take_all}
use Rattle.pipeline_meaning.specs.Stages.{StageOf, stage_list, stages_list}
use Rattle.pipeline_plan.specs.{PlanFlags.AreFlags, PlanFlags.keeps-flags, Rules.stage-more}
use Rattle.pipeline_plan.proofs.flags.flags_through.Goals as goal

pub loop-stage-preserved : goal.loop-stage-preserved
loop-stage-preserved g c items sound =
    let stages = c.args.stages.now in
    let means = g.K.Kind.means in
    let before = stages_list means (take c.loop-stage.stage-index stages) items in
    let within : c.loop-stage.stage-index < length stages = c.loop-stage-test.true in
    subst (λ (l : List g.row.K-Item-Content.Denot). AreFlags g.K.Item.OrderedValue.order c.after-behind.result l)
    (ap (λ s. stage_list means s before) c.stage-item.is ∙ sym (stage-more means stages c.loop-stage.stage-index c.stage-item.result items within))
    (rw (c.after-behind.ensures, c.operation_of.ensures) (keeps-flags means g.K.Item.OrderedValue.order c.stage-item.result c.loop-stage.behind before (c.loop-stage.invariant items sound)))

pub returns : goal.returns
returns g c l sound =
    subst (λ (s : List (StageOf g.row.K-Function.Denot g.row.K-Test.Denot g.row.K-Expansion.Denot)). AreFlags g.K.Item.OrderedValue.order c.loop-stage.behind (stages_list g.K.Kind.means s l))
    (take_all c.loop-stage.stage-index c.args.stages.now c.loop-stage-test.false) (c.loop-stage.invariant l sound)
