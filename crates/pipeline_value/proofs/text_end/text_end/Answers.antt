use Rattle.std.proofs.Common.{ℕ, List, Ok, ap₂, subst}
use Rattle.value_text.specs.Texts.{pair_text, partition_text}
use Rattle.pipeline_value.specs.Value.{Tells}
use Rattle.pipeline_value.proofs.text_end.text_end.Goals as goal

pub returns-in-Partition : goal.returns-in-Partition
returns-in-Partition g c =
    let text = c.text_summary-parts.ensures.summary in
    let P : List ℕ → Type 0 = λ told. Tells (Ok told) c.parted_value.result in
    rw c.in-Partition.is (subst P (ap₂ partition_text (text _) (text _)) (rw c.of.ensures at c.parted_value.ensures))

pub returns-in-Teeing : goal.returns-in-Teeing
returns-in-Teeing g c =
    let P : List ℕ → Type 0 = λ told. Tells (Ok told) c.paired_value.result in
    rw c.in-Teeing.is (subst P (ap₂ pair_text (c.text_summary-one.ensures.summary _) (c.text_summary-other.ensures.summary _)) c.paired_value.ensures)
