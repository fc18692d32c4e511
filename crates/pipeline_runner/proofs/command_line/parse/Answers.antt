use Rattle.std.proofs.Common.{◌≡◌, ◌∙◌, ap, ap₂, map, refl, subst, true}
use Rattle.std.proofs.lemmas.Result.{IfOk-weaker}
use Rattle.clap.specs.Simple.{app_of_fields, on_top}
use Rattle.clap.specs.Words.{FailsBy, app_of, fault_of, is_simple, is_simple_and_free, matches_of, with_rule}
use Rattle.pipeline_runner.specs.Command.{bare_program, program}
use Rattle.pipeline_runner.proofs.command_line.parse.Goals as goal

pub returns : goal.returns
returns g c =
    let words = map g.S.AsStr.text c.args.words.now in
    let bare : app_of c.no_binary_name.result ≡ bare_program =
    ap app_of_fields c.no_binary_name.ensures ∙ ap (on_top (λ s. record s { no_binary_name = true })) (ap app_of_fields c.after_help.ensures ∙ ap app_of_fields c.about.ensures ∙ c.new.ensures.app) in
    let first = c.in_ok-arg.ensures.shape c.file.ensures.local ∙ ap₂ with_rule bare c.file.ensures.rule in
    let second = c.in_ok-arg-2.ensures.shape c.workers.ensures.local ∙ ap₂ with_rule first c.workers.ensures.rule in
    let made : app_of c.in_ok-arg-3.field-0 ≡ program = c.in_ok-arg-3.ensures.shape c.target.ensures.local ∙ ap₂ with_rule second c.target.ensures.rule in
    record {
      found = IfOk-weaker c.try_get_matches_from.result _ _ (λ m has. (has (ap is_simple made ∙ refl)).0 ∙ ap (λ a. matches_of a words) made) c.try_get_matches_from.ensures.matches;
      fails = subst (λ a. FailsBy (fault_of a words) c.try_get_matches_from.result) made (c.try_get_matches_from.ensures.kinds (ap is_simple_and_free made ∙ refl));
    }
