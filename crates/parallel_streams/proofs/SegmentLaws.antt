-- What the segments of a stream make together.
use Rattle.std.specs.Prelude.{◌≡◌, ◌++◌, List}
use Rattle.std.proofs.Common.{sym, ap, ◌∙◌, append_assoc}

-- one segment more
pub read-segment : {C : Type 0} (value done left items behind : List C) → value ≡ done ++ left → left ≡ items ++ behind → value ≡ (done ++ items) ++ behind
read-segment value done left items behind is split = is ∙ ap (λ l. done ++ l) split ∙ sym (append_assoc done items behind)
