-- The groups of the inner collector's texts.
use Rattle.std.proofs.Common.{refl, ap, sym, ◌∙◌}
use Rattle.std.specs.{Prelude.bytes_eq, Fmt.signed_decimal, Ordering.int_eq}
use Rattle.value_text.specs.Texts.{groups-same, itself}
use Rattle.pipeline_meaning.specs.Summaries.{text_groups_text, text_inner_text}
use Rattle.pipeline_meaning.proofs.text_summaries.text_groups.Goals as goal

pub returns-in-Length-clause-summary : goal.returns-in-Length-clause-summary
returns-in-Length-clause-summary c = λ l.
    c.grouped.ensures.summary l
    ∙ groups-same signed_decimal int_eq _ _ _ _ refl c.text_inner-inner.ensures.summary l
    ∙ ap (λ key. text_groups_text key (text_inner_text c.args.inner) l) (sym c.in-Length.is)

pub returns-in-Itself-clause-summary : goal.returns-in-Itself-clause-summary
returns-in-Itself-clause-summary c = λ l.
    c.grouped-in-Itself.ensures.summary l
    ∙ groups-same itself bytes_eq _ _ _ _ refl c.text_inner-inner.ensures.summary l
    ∙ ap (λ key. text_groups_text key (text_inner_text c.args.inner) l) (sym c.in-Itself.is)
