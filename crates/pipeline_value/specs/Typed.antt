-- What is told of a pipeline as it is read, by the kind of its items: what is told of its program (proofs/ByKind).
use Rattle.std.specs.Prelude.{◌+ℤ◌, ℕ, ℤ, pos, Bool, bytes_eq, List, ◌++◌, map, fold, Ok}
use Rattle.std.specs.Fmt.{signed_decimal}
use Rattle.std.specs.Ordering.{int_eq, int_cmp}
use Rattle.sources.specs.Integers.{integers_between}
use Rattle.stages.specs.Choices.{larger, smaller}
use Rattle.stages.specs.Products.{wrapped_product}
use Rattle.stages.specs.Wrapping.{wrapped_sum}
use Rattle.collectors.specs.Reductions.{delimited, reduced}
use Rattle.pipeline_language.specs.declared.pipeline.{NumberBody.NumberBody, NumberSource.NumberSource, TextBody.TextBody, TextEnd.TextEnd, TextFunction.TextFunction, Pipeline.Pipeline}
use Rattle.pipeline_language.specs.declared.pipeline.NumberSource.TheVariants.{Range, Closed, Numbers}
use Rattle.pipeline_language.specs.Content.{NumberTerminal, TextTerminal, TextValue}
use Rattle.pipeline_language.specs.declared.grammar.NumberTotal.TheVariants as totals
use Rattle.pipeline_language.specs.declared.grammar.Joint.TheVariants.{Plain, Within}
use Rattle.pipeline_language.specs.declared.grammar.Terminal.TheVariants as terminals
use Rattle.pipeline_language.specs.declared.pipeline.TextEnd.TheVariants as ends
use Rattle.pipeline_language.specs.declared.pipeline.TextFunction.TheVariants as text_functions
use Rattle.pipeline_language.specs.declared.pipeline.Mapped.TheVariants as text_values
use Rattle.pipeline_language.specs.declared.pipeline.Pipeline.TheVariants as pipelines
use Rattle.pipeline_meaning.specs.Functions.{number_image, number_holds, number_join, text_length, text_holds, text_join}
use Rattle.pipeline_meaning.specs.Stages.{number_stages, text_stages}
use Rattle.value_text.specs.Texts.{itself, groups_text, parts_text, merged_text, optional_text, pair_text}
use Rattle.pipeline_meaning.specs.Summaries.{number_summary_text, text_summary_text, text_groups_text}
use Rattle.pipeline_value.specs.Value.{Told, match_text, strict_told, whole_text}

-- the items of a source (java.util.stream.LongStream, range and rangeClosed)
abbrev pub source_numbers : NumberSource → List ℤ
source_numbers (Range range) = integers_between range.start range.end
source_numbers (Closed range) = integers_between range.start (range.last +ℤ pos 1)
source_numbers (Numbers numbers) = numbers.items

-- what a terminal tells of numbers (java.util.stream.LongStream)
abbrev pub number_told : NumberTerminal → List ℤ → Told
number_told (terminals.Own totals.Sum) l = Ok (signed_decimal (fold wrapped_sum (pos 0) l))
number_told (terminals.Own totals.Product) l = Ok (signed_decimal (fold wrapped_product (pos 1) l))
number_told (terminals.Own totals.Max) l = Ok (optional_text signed_decimal (reduced (larger int_cmp) l))
number_told (terminals.Own totals.Min) l = Ok (optional_text signed_decimal (reduced (smaller int_cmp) l))
number_told (terminals.Whole made) l = Ok (whole_text signed_decimal made l)
number_told (terminals.Match how p) l = Ok (match_text how (number_holds p) l)
number_told (terminals.GroupBy f summary) l = Ok (groups_text signed_decimal int_eq (number_image f) (number_summary_text summary) l)
number_told (terminals.Partition p summary) l = Ok (parts_text (number_holds p) (number_summary_text summary) l)
number_told (terminals.ToMap key value) l = Ok (merged_text signed_decimal signed_decimal int_eq (number_image key) (number_image value.0) (number_join value.1) l)
number_told (terminals.ToMapStrict key value) l = strict_told signed_decimal signed_decimal int_eq (number_image key) (number_image value) l
number_told (terminals.Teeing one other) l = Ok (pair_text (number_summary_text one l) (number_summary_text other l))

abbrev pub number_body_told : NumberBody → List ℤ → Told
number_body_told body l = number_told body.terminal (number_stages body.stages.items l)

-- a map over texts, with its values and what becomes of two of one key
abbrev pub text_map_text : {K : Type 0} → (K → List ℕ) → (K → K → Bool) → (List ℕ → K) → TextValue → List (List ℕ) → List ℕ
text_map_text key_text same key (text_values.Length merge) l = merged_text key_text signed_decimal same key text_length (number_join merge) l
text_map_text key_text same key (text_values.Itself merge) l = merged_text key_text itself same key itself (text_join merge) l

abbrev pub text_strict_told : {K : Type 0} → (K → List ℕ) → (K → K → Bool) → (List ℕ → K) → TextFunction → List (List ℕ) → Told
text_strict_told key_text same key text_functions.Length l = strict_told key_text signed_decimal same key text_length l
text_strict_told key_text same key text_functions.Itself l = strict_told key_text itself same key itself l

-- what a terminal tells of texts (java.util.stream.Stream)
abbrev pub text_told : TextTerminal → List (List ℕ) → Told
text_told (terminals.Whole made) l = Ok (whole_text itself made l)
text_told (terminals.Match how p) l = Ok (match_text how (text_holds p) l)
text_told (terminals.Own (Plain between)) l = Ok (delimited between.now l)
text_told (terminals.Own (Within between front back)) l = Ok (front.now ++ delimited between.now l ++ back.now)
text_told (terminals.GroupBy f summary) l = Ok (text_groups_text f (text_summary_text summary) l)
text_told (terminals.Partition p summary) l = Ok (parts_text (text_holds p) (text_summary_text summary) l)
text_told (terminals.ToMap text_functions.Length value) l = Ok (text_map_text signed_decimal int_eq text_length value l)
text_told (terminals.ToMap text_functions.Itself value) l = Ok (text_map_text itself bytes_eq itself value l)
text_told (terminals.ToMapStrict text_functions.Length value) l = text_strict_told signed_decimal int_eq text_length value l
text_told (terminals.ToMapStrict text_functions.Itself value) l = text_strict_told itself bytes_eq itself value l
text_told (terminals.Teeing one other) l = Ok (pair_text (text_summary_text one l) (text_summary_text other l))

abbrev pub text_end_told : TextEnd → List (List ℕ) → Told
text_end_told (ends.Terminal terminal) l = text_told terminal l
text_end_told (ends.Lengths body) l = number_body_told body (map text_length l)

abbrev pub text_body_told : TextBody → List (List ℕ) → Told
text_body_told body l = text_end_told body.end (text_stages body.stages.items l)

-- what a pipeline tells
abbrev pub pipeline_told : Pipeline → Told
pipeline_told (pipelines.Numbers source body) = number_body_told body (source_numbers source)
pipeline_told (pipelines.Texts texts body) = text_body_told body (map (λ text. text.now) texts.items)
