use Rattle.std.proofs.Common.{rules, ap, sym, ◌∙◌}
-- The first item is what keeping the earlier of two leaves.
use Rattle.std.specs.Fmt.{signed_decimal}
use Rattle.collectors.specs.Reductions.{reduced}
use Rattle.pipeline_meaning.specs.{Functions.merging_join, Summaries.number_base_text}
use Rattle.value_text.specs.Texts.{reduced-first_of, optional_text}
use Rattle.pipeline_meaning.proofs.number_bases.number_base.Goals as goal

pub returns-in-First-clause-summary : goal.returns-in-First-clause-summary
returns-in-First-clause-summary c = λ l.
    ap (λ join. optional_text signed_decimal (reduced join l)) (ap merging_join c.new-in-First.ensures ∙ c.of-in-First.ensures.join)
    ∙ ap (optional_text signed_decimal) (reduced-first_of l)
    ∙ ap (λ base. number_base_text base l) (sym c.in-First.is)

-- bounded: a wrong body would search to its limit
pub returns-in-Own-Max-clause-summary : goal.returns-in-Own-Max-clause-summary
returns-in-Own-Max-clause-summary c = search rules fits 60 depth 3
