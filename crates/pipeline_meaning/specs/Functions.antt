-- What the language's functions are, on numbers and on the bytes of texts.
use Rattle.std.specs.Prelude.{ℕ, ℤ, pos, neg_ℤ, Bool, List, length, ◌==◌, nat_lt, int_lt, ◌+ℤ◌, ◌*ℤ◌, refl}
use Rattle.std.specs.Int.{int_max, int_rem_euclid}
use Rattle.std.{specs.List.starts_with, proofs.Common.arith, proofs.lemmas.Int.ints}
use Rattle.std.specs.Ordering.{int_eq, int_cmp, is_lt, is_gt}
use Rattle.stages.specs.Choices.{larger, smaller, first_of, last_of, either-value}
use Rattle.stages.specs.{Products.wrapped_product, Operators.IsAssociative}
use Rattle.stages.specs.Wrapping.{wrapped, wrapped_sum, wrapped-value, wrapped_sum_assoc}
use Rattle.pipeline_language.specs.declared.{pipeline.NumberFunction.NumberFunction, grammar.NumberChange.NumberChange, grammar.NumberTest.NumberTest, grammar.TextCondition.TextCondition, grammar.Merge.Merge, pipeline.TextMerge.TextMerge}
use Rattle.pipeline_language.specs.declared.grammar.NumberChange.TheVariants.{Add, Mul, Negate}
use Rattle.pipeline_language.specs.declared.pipeline.NumberFunction.TheVariants.{Change, Mod, Itself}
use Rattle.pipeline_language.specs.declared.grammar.NumberTest.TheVariants.{Less, Greater, Equals, Divisible}
use Rattle.pipeline_language.specs.declared.grammar.TextCondition.TheVariants.{Empty, Starts, Longer}
use Rattle.pipeline_language.specs.Content.{TextTest, text_content}
use Rattle.pipeline_meaning.specs.declared.functions.{NumberMapping.NumberMapping, NumberComparison.NumberComparison, NumberCheck.NumberCheck, NumberJoining.NumberJoining, NumberMerging.NumberMerging}
use Rattle.spliterator.specs.Values.{IsI64, int_cmp-total}
use Rattle.stream_functions.specs.Remainders.{remainder-value}
use Rattle.pipeline_language.specs.declared.grammar.Merge.TheVariants as numbers
use Rattle.pipeline_language.specs.declared.pipeline.TextMerge.TheVariants as texts
use Rattle.pipeline_meaning.specs.declared.functions.NumberMapping.TheVariants as mappings
use Rattle.pipeline_meaning.specs.declared.functions.NumberComparison.TheVariants as comparisons
use Rattle.pipeline_meaning.specs.declared.functions.NumberCheck.TheVariants as checks
use Rattle.pipeline_meaning.specs.declared.functions.NumberJoining.TheVariants as joinings
use Rattle.pipeline_meaning.specs.declared.functions.NumberMerging.TheVariants as mergings

-- A divisor below 1, which no file has, counts as 1.
abbrev pub divisor : ℤ → ℤ
divisor n = int_max n (pos 1)

-- the least remainder that isn't negative
abbrev pub modulo : ℤ → ℤ → ℤ
modulo x n = int_rem_euclid x (divisor n)

-- Sums, products and negations wrap, as an i64 does.
abbrev pub change_image : NumberChange → ℤ → ℤ
change_image (Add n) x = wrapped_sum x n
change_image (Mul n) x = wrapped_product x n
change_image Negate x = wrapped (neg_ℤ x)

abbrev pub number_image : NumberFunction → ℤ → ℤ
number_image (Change change) x = change_image change x
number_image (Mod n) x = modulo x n
number_image Itself x = x

-- the number of a text's bytes, as an i64
abbrev pub text_length : List ℕ → ℤ
text_length text = wrapped (pos (length text))

abbrev pub number_holds : NumberTest → ℤ → Bool
number_holds (Less n) x = int_lt x n
number_holds (Greater n) x = int_lt n x
number_holds (Equals n) x = int_eq x n
number_holds (Divisible n) x = int_eq (modulo x n) (pos 0)

-- where a text of the test has this content
abbrev pub condition_holds : {T : Type 0} → (T → List ℕ) → TextCondition T → List ℕ → Bool
condition_holds content Empty text = length text == 0
condition_holds content (Starts front) text = starts_with ◌==◌ text (content front)
condition_holds content (Longer n) text = nat_lt n (length text)

abbrev pub text_holds : TextTest → List ℕ → Bool
text_holds p text = condition_holds text_content p text

-- of two values of one key, the earlier before the later
abbrev pub number_join : Merge → ℤ → ℤ → ℤ
number_join numbers.First = first_of
number_join numbers.Last = last_of
number_join numbers.Sum = wrapped_sum
number_join numbers.Max = larger int_cmp
number_join numbers.Min = smaller int_cmp

abbrev pub text_join : TextMerge → List ℕ → List ℕ → List ℕ
text_join texts.First = first_of
text_join texts.Last = last_of

-- What the functions are, as they are prepared.

abbrev pub mapping_image : NumberMapping → ℤ → ℤ
mapping_image mappings.Itself x = x
mapping_image (mappings.Mod d) x = int_rem_euclid x (pos d.number)
mapping_image (mappings.Change change) x = change_image change x

abbrev pub comparison_holds : NumberComparison → ℤ → Bool
comparison_holds (comparisons.Less n) x = int_lt x n
comparison_holds (comparisons.Greater n) x = int_lt n x
comparison_holds (comparisons.Equals n) x = int_eq x n

abbrev pub check_holds : NumberCheck → ℤ → Bool
check_holds (checks.Divisible d) x = int_eq (int_rem_euclid x (pos d.number)) (pos 0)
check_holds (checks.Comparison comparison) x = comparison_holds comparison x

abbrev pub joining_join : NumberJoining → ℤ → ℤ → ℤ
joining_join joinings.Sum = wrapped_sum
joining_join joinings.Max = larger int_cmp
joining_join joinings.Min = smaller int_cmp

abbrev pub merging_join : NumberMerging → ℤ → ℤ → ℤ
merging_join mergings.First = first_of
merging_join mergings.Last = last_of
merging_join (mergings.Joined joining) = joining_join joining

-- Values of the prepared functions.

pub mapping_image-value : (f : NumberMapping) (x : ℤ) → IsI64 x → IsI64 (mapping_image f x)
mapping_image-value mappings.Itself x h = h
mapping_image-value (mappings.Mod d) x h = remainder-value x d.number d.least d.most
mapping_image-value (mappings.Change (Add n)) x h = wrapped-value (x +ℤ n)
mapping_image-value (mappings.Change (Mul n)) x h = wrapped-value (x *ℤ n)
mapping_image-value (mappings.Change Negate) x h = wrapped-value (neg_ℤ x)

pub merging_join-value : (merging : NumberMerging) (x y : ℤ) → IsI64 x → IsI64 y → IsI64 (merging_join merging x y)
merging_join-value mergings.First x y h k = h
merging_join-value mergings.Last x y h k = k
merging_join-value (mergings.Joined joinings.Sum) x y h k = wrapped-value (x +ℤ y)
merging_join-value (mergings.Joined joinings.Max) x y h k = either-value IsI64 (is_lt (int_cmp x y)) x y h k
merging_join-value (mergings.Joined joinings.Min) x y h k = either-value IsI64 (is_gt (int_cmp x y)) x y h k

pub merging_join-associative : (merging : NumberMerging) → IsAssociative IsI64 (merging_join merging)
merging_join-associative mergings.First x y z h k l = refl
merging_join-associative mergings.Last x y z h k l = refl
merging_join-associative (mergings.Joined joinings.Sum) x y z h k l = wrapped_sum_assoc x y z
merging_join-associative (mergings.Joined joinings.Max) x y z h k l = grind (arith, ints, int_cmp-total)
merging_join-associative (mergings.Joined joinings.Min) x y z h k l = grind (arith, ints, int_cmp-total)

pub text_join-value : (merge : TextMerge) (is_value : List ℕ → Type 0) (x y : List ℕ) → is_value x → is_value y → is_value (text_join merge x y)
text_join-value texts.First is_value x y h k = h
text_join-value texts.Last is_value x y h k = k
