use Rattle.std.proofs.Common.{◌∙◌, sym, arith, length, le_refl}
use Rattle.std.proofs.lemmas.{Bool.eqb-false, Slice.between_to_end}
use Rattle.file_words.proofs.LineLemmas.{line_alone, line_cut}
use Rattle.file_words.proofs.lines.first_of_bytes.Goals as goal

pub returns-in-Some : goal.returns-in-Some
returns-in-Some c =
    let left = between_to_end c.split_at.result.1.now 1 (length c.split_at.result.1.now) (le_refl _) in
    line_cut c.args.bytes.now c.split_at.result.0.now c.split_at.result.1.now _ c.in-Some.end c.in-Some.ensures c.split_at.ensures.front c.split_at.ensures.back left

pub returns-in-None : goal.returns-in-None
returns-in-None c = line_alone c.args.bytes.now (omega (arith, eqb-false _ _ (sym c.is_empty.ensures ∙ c.if-is_empty.false))) c.in-None.ensures
