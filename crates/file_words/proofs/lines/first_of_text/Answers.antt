use Rattle.std.proofs.Common.{◌∙◌, sym, subst, arith}
use Rattle.std.proofs.lemmas.Bool.{eqb-false}
use Rattle.file_words.proofs.LineLemmas.{first_byte, no_byte, line_alone, line_cut, cut_is_boundary}
use Rattle.file_words.proofs.lines.first_of_text.Goals as goal

pub range_from-requires : goal.range_from-requires
range_from-requires c _ = cut_is_boundary 10 c.args.text.now c.split_at.result.1.now c.in-Some.end (omega arith) c.utf8.text (subst (first_byte 10 c.in-Some.end) c.as_bytes.ensures.value c.in-Some.ensures) c.split_at.ensures.back

pub returns-in-Some-clause-line : goal.returns-in-Some-clause-line
returns-in-Some-clause-line c =
    let first = subst (first_byte 10 c.in-Some.end) c.as_bytes.ensures.value c.in-Some.ensures in
    line_cut c.args.text.now c.split_at.result.0.now c.split_at.result.1.now c.range_from.result.now c.in-Some.end first c.split_at.ensures.front c.split_at.ensures.back c.range_from.ensures.value

pub returns-in-None-clause-line : goal.returns-in-None-clause-line
returns-in-None-clause-line c = line_alone c.args.text.now (omega (arith, eqb-false _ _ (sym c.is_empty.ensures ∙ c.if-is_empty.false))) (subst (no_byte 10) c.as_bytes.ensures.value c.in-None.ensures)
