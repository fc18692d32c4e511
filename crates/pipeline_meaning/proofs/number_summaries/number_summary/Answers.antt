-- The groups by the prepared key are those by the file's.
use Rattle.std.proofs.Common.{ap, sym, ◌∙◌}
use Rattle.std.specs.{Fmt.signed_decimal, Ordering.int_eq}
use Rattle.value_text.specs.Texts.{groups-same}
use Rattle.pipeline_meaning.specs.Summaries.{number_summary_text}
use Rattle.pipeline_meaning.proofs.number_summaries.number_summary.Goals as goal

pub returns-in-GroupBy-clause-summary : goal.returns-in-GroupBy-clause-summary
returns-in-GroupBy-clause-summary c = λ l.
    c.grouped.ensures.summary l
    ∙ groups-same signed_decimal int_eq _ _ _ _ c.of-key.ensures c.number_inner.ensures.summary l
    ∙ ap (λ summary. number_summary_text summary l) (sym c.in-GroupBy.is)
