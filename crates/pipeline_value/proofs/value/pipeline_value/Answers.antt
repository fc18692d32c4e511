use Rattle.std.proofs.Common.{rules, subst, sym}
use Rattle.pipeline_value.{specs.Typed.pipeline_told, specs.Value.Tells, proofs.ByKind.told_by_content}
use Rattle.pipeline_value.proofs.value.pipeline_value.Goals as goal

pub returns-in-Numbers : goal.returns-in-Numbers
returns-in-Numbers g c =
    let told : Tells (pipeline_told c.args.pipeline) c.source_value.result = search rules in
    subst (λ t. Tells t c.source_value.result) (sym (told_by_content c.args.pipeline)) told

pub returns-in-Texts : goal.returns-in-Texts
returns-in-Texts g c =
    let told : Tells (pipeline_told c.args.pipeline) c.text_value.result = search rules in
    subst (λ t. Tells t c.text_value.result) (sym (told_by_content c.args.pipeline)) told
