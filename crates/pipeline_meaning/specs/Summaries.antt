-- What the language's collectors make of a list, as text: numbers as they are, texts as their bytes.
use Rattle.std.specs.Prelude.{ℕ, ℤ, pos, List, map, filter, length, bytes_eq}
use Rattle.std.specs.Fmt.{signed_decimal}
use Rattle.std.specs.Ordering.{int_eq, int_cmp}
use Rattle.stages.specs.Choices.{larger, smaller}
use Rattle.stages.specs.Wrapping.{wrapped}
use Rattle.collectors.specs.Reductions.{reduced, first, delimited}
use Rattle.collectors.specs.Sums.{int_sum}
use Rattle.pipeline_language.specs.Content.{NumberBase, NumberInner, NumberSummary, TextBase, TextInner, TextSummary}
use Rattle.pipeline_language.specs.declared.grammar.NumberOnly.TheVariants as only
use Rattle.pipeline_language.specs.declared.pipeline.Mapped.TheVariants as values
use Rattle.pipeline_language.specs.declared.grammar.Base.TheVariants as bases
use Rattle.pipeline_language.specs.declared.grammar.Inner.TheVariants as inners
use Rattle.pipeline_language.specs.declared.grammar.Summary.TheVariants as summaries
use Rattle.pipeline_language.specs.declared.pipeline.TextFunction.{TextFunction}
use Rattle.pipeline_language.specs.declared.pipeline.TextFunction.TheVariants.{Length, Itself}
use Rattle.pipeline_meaning.specs.Functions.{number_image, number_holds, text_length, text_holds}
use Rattle.value_text.specs.Texts.{itself, optional_text, list_text, groups_text}

-- java.util.stream.Collectors: counting, summingLong, maxBy, minBy, toList; java.util.stream.Stream, findFirst
abbrev pub number_base_text : NumberBase → List ℤ → List ℕ
number_base_text bases.Count l = signed_decimal (wrapped (pos (length l)))
number_base_text (bases.Own only.Sum) l = signed_decimal (wrapped (int_sum l))
number_base_text (bases.Own only.Max) l = optional_text signed_decimal (reduced (larger int_cmp) l)
number_base_text (bases.Own only.Min) l = optional_text signed_decimal (reduced (smaller int_cmp) l)
number_base_text bases.First l = optional_text signed_decimal (first l)
number_base_text bases.ToList l = list_text signed_decimal l

-- java.util.stream.Collectors: mapping, filtering
abbrev pub number_inner_text : NumberInner → List ℤ → List ℕ
number_inner_text (inners.Base base) l = number_base_text base l
number_inner_text (inners.Mapping (f, base)) l = number_base_text base (map (number_image f) l)
number_inner_text (inners.Filtering test base) l = number_base_text base (filter (number_holds test) l)

abbrev pub number_summary_text : NumberSummary → List ℤ → List ℕ
number_summary_text (summaries.Base base) l = number_base_text base l
number_summary_text (summaries.Mapping (f, inner)) l = number_inner_text inner (map (number_image f) l)
number_summary_text (summaries.Filtering test inner) l = number_inner_text inner (filter (number_holds test) l)
number_summary_text (summaries.GroupBy f inner) l = groups_text signed_decimal int_eq (number_image f) (number_inner_text inner) l

-- java.util.stream.Collectors: counting, toList, joining; java.util.stream.Stream, findFirst
abbrev pub text_base_text : TextBase → List (List ℕ) → List ℕ
text_base_text bases.Count l = signed_decimal (wrapped (pos (length l)))
text_base_text bases.First l = optional_text itself (first l)
text_base_text bases.ToList l = list_text itself l
text_base_text (bases.Own delimiter) l = delimited delimiter.now l

abbrev pub text_inner_text : TextInner → List (List ℕ) → List ℕ
text_inner_text (inners.Base base) l = text_base_text base l
text_inner_text (inners.Mapping (values.Length base)) l = number_base_text base (map text_length l)
text_inner_text (inners.Mapping (values.Itself base)) l = text_base_text base l
text_inner_text (inners.Filtering test base) l = text_base_text base (filter (text_holds test) l)

-- the groups of texts by their lengths, or by themselves
abbrev pub text_groups_text : TextFunction → (List (List ℕ) → List ℕ) → List (List ℕ) → List ℕ
text_groups_text Length text l = groups_text signed_decimal int_eq text_length text l
text_groups_text Itself text l = groups_text itself bytes_eq itself text l

abbrev pub text_summary_text : TextSummary → List (List ℕ) → List ℕ
text_summary_text (summaries.Base base) l = text_base_text base l
text_summary_text (summaries.Mapping (values.Length inner)) l = number_inner_text inner (map text_length l)
text_summary_text (summaries.Mapping (values.Itself inner)) l = text_inner_text inner l
text_summary_text (summaries.Filtering test inner) l = text_inner_text inner (filter (text_holds test) l)
text_summary_text (summaries.GroupBy f inner) l = text_groups_text f (text_inner_text inner) l
