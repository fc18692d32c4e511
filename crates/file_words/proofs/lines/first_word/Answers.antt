use Rattle.std.proofs.Common.{subst, arith}
use Rattle.file_words.proofs.LineLemmas.{first_byte, no_byte, word_alone, word_cut, cut_is_boundary}
use Rattle.file_words.proofs.lines.first_word.Goals as goal

pub range_from-requires : goal.range_from-requires
range_from-requires c _ = cut_is_boundary 32 c.args.line.now c.split_at.result.1.now c.in-Some.end (omega arith) c.utf8.line (subst (first_byte 32 c.in-Some.end) c.as_bytes.ensures.value c.in-Some.ensures) c.split_at.ensures.back

pub returns-in-Some-clause-word : goal.returns-in-Some-clause-word
returns-in-Some-clause-word c =
    let first = subst (first_byte 32 c.in-Some.end) c.as_bytes.ensures.value c.in-Some.ensures in
    word_cut c.args.line.now c.split_at.result.0.now c.split_at.result.1.now c.range_from.result.now c.in-Some.end first c.split_at.ensures.front c.split_at.ensures.back c.range_from.ensures.value

pub returns-in-None-clause-word : goal.returns-in-None-clause-word
returns-in-None-clause-word c = word_alone c.args.line.now (subst (no_byte 32) c.as_bytes.ensures.value c.in-None.ensures)
