use Rattle.std.specs.{Fmt.signed_decimal, Ordering.int_eq}
use Rattle.std.proofs.Common.{ℕ, List, Ok, ap₂, subst}
use Rattle.value_text.specs.Texts.{partition_text}
use Rattle.pipeline_value.specs.Value.{Tells, Told, strict_told}
use Rattle.pipeline_value.proofs.number_end.number_end.Goals as goal

pub returns-in-ToMapStrict : goal.returns-in-ToMapStrict
returns-in-ToMapStrict g c =
    let P : Told → Type 0 = λ told. Tells told c.strict_value.result in
    let numbers = g.X.Plumbing.value c.args.stream.now in
    rw c.in-ToMapStrict.is (subst P (ap₂ (λ key value. strict_told signed_decimal signed_decimal int_eq key value numbers) c.of-in-ToMapStrict.ensures c.of-in-ToMapStrict-2.ensures) c.strict_value.ensures)

pub returns-in-Match : goal.returns-in-Match
returns-in-Match g c = rw c.in-Match.is (rw c.of.ensures at c.match_value.ensures)

pub returns-in-Partition : goal.returns-in-Partition
returns-in-Partition g c =
    let text = c.number_summary-parts.ensures.summary in
    let P : List ℕ → Type 0 = λ told. Tells (Ok told) c.parted_value.result in
    rw c.in-Partition.is (subst P (ap₂ partition_text (text _) (text _)) (rw c.of-in-Partition.ensures at c.parted_value.ensures))
