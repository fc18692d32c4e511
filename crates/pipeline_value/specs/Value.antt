-- The items of a pipeline, and what its stages make of them. A number is asked of no text and a text of no number in a file that means
-- something; that each stands for the other here, by its length and by its digits, leaves nothing open.
use Rattle.std.specs.Prelude.{ℕ, ℤ, pos, ◌+ℤ◌, Bool, false, bytes_eq, List, map, filter, flat_map, length, ◌≡◌, not, [], ◌∷◌, ◌++◌, fold, string_bytes, Option, Some, None, Result, Ok, Err, if◌then◌else◌}
use Rattle.std.{proofs.Math.ListN.replicate, specs.Fmt.signed_decimal}
use Rattle.std.specs.List.{list_any, prefix_len}
use Rattle.std.specs.Ordering.{int_eq, int_cmp}
use Rattle.sources.specs.Integers.{integers_between}
use Rattle.stages.specs.Choices.{larger, smaller}
use Rattle.stages.specs.{Distinct.distinct, Products.wrapped_product}
use Rattle.stages.specs.Wrapping.{wrapped, wrapped_sum}
use Rattle.file_words.specs.Words.{words_of}
use Rattle.pipeline_language.specs.declared.grammar.Barrier.TheVariants.{Distinct, Counted, While}
use Rattle.pipeline_language.specs.declared.grammar.{Expansion.Expansion, Function.Function, Merge.Merge}
use Rattle.pipeline_language.specs.declared.grammar.Expansion.TheVariants.{Repeat, Words}
use Rattle.pipeline_language.specs.declared.grammar.Function.TheVariants.{Change, Mod, Length, Itself}
use Rattle.pipeline_language.specs.declared.grammar.Stage.TheVariants.{Map, Filter, FlatMap, Barrier}
use Rattle.pipeline_language.specs.Syntax.{Barring, Condition, Origin, Range, Closed, Numbers, Lines, Stage, Base, Inner, Program, Summary, Terminal}
use Rattle.pipeline_meaning.specs.Functions.{change_image, condition_holds, modulo, number_holds, text_length}
use Rattle.pipeline_meaning.specs.Stages.{part_list}
use Rattle.pipeline_meaning.specs.Walks.{one_after_other}
use Rattle.collectors.specs.Reductions.{delimited, first, reduced}
use Rattle.collectors.specs.Sums.{int_sum}
use Rattle.parallel_streams.specs.Terminals.{all_meet, any_meets}
use Rattle.pipeline_language.specs.declared.grammar.Joint.TheVariants.{Plain, Within}
use Rattle.pipeline_language.specs.declared.grammar.OfKind.TheVariants.{OfNumbers, OfTexts}
use Rattle.pipeline_language.specs.declared.grammar.{AllItems.AllItems, Quantifier.Quantifier}
use Rattle.pipeline_language.specs.declared.grammar.AllItems.TheVariants.{Count, FindFirst, ToList}
use Rattle.pipeline_language.specs.declared.grammar.Quantifier.TheVariants.{AllMatch, AnyMatch, NoneMatch}
use Rattle.pipeline_language.specs.declared.grammar.Terminal.TheVariants.{Whole, Match, GroupBy, Partition, ToMap, ToMapStrict, Teeing, Own}
use Rattle.value_text.specs.Texts.{groups_text, parts_text, merged_text, strict_text, list_text, optional_text, pair_text, truth_text}
use Rattle.pipeline_value.specs.declared.told.ValueError.{ValueError}
use Rattle.pipeline_language.specs.declared.grammar.Merge.TheVariants as merges
use Rattle.pipeline_language.specs.declared.grammar.Base.TheVariants as bases
use Rattle.pipeline_language.specs.declared.grammar.Inner.TheVariants as inners
use Rattle.pipeline_language.specs.declared.grammar.NumberOnly.TheVariants as only
use Rattle.pipeline_language.specs.declared.grammar.NumberTotal.TheVariants as totals
use Rattle.pipeline_language.specs.declared.grammar.Summary.TheVariants as summaries
use Rattle.pipeline_value.specs.declared.told.ValueError.TheVariants as errors

-- a number of 64 bits, or a text by its bytes
pub data Item : Type 0 where
  Number : ℤ → Item
  Text : List ℕ → Item

-- an item as it is written
abbrev pub item_text : Item → List ℕ
item_text (Number n) = signed_decimal n
item_text (Text text) = text

-- the number that an item is, or the length of a text
abbrev pub item_number : Item → ℤ
item_number (Number n) = n
item_number (Text text) = text_length text

-- equal numbers, or equal texts
abbrev pub same_item : Item → Item → Bool
same_item (Number m) (Number n) = int_eq m n
same_item (Text t) (Text u) = bytes_eq t u
same_item (Number n) (Text text) = false
same_item (Text text) (Number n) = false

abbrev pub image : Function → Item → Item
image (Change change) x = Number (change_image change (item_number x))
image (Mod n) x = Number (modulo (item_number x) n)
image Length x = Number (text_length (item_text x))
image Itself x = x

abbrev pub holds : Condition → Item → Bool
holds (OfNumbers p) x = number_holds p (item_number x)
holds (OfTexts p) x = condition_holds (λ text. text) p (item_text x)

-- of two values of one key, the earlier before the later
abbrev pub joined : Merge → Item → Item → Item
joined merges.First x y = x
joined merges.Last x y = y
joined merges.Sum x y = Number (wrapped_sum (item_number x) (item_number y))
joined merges.Max x y = Number (larger int_cmp (item_number x) (item_number y))
joined merges.Min x y = Number (smaller int_cmp (item_number x) (item_number y))

-- what `flatmap` puts in an item's place
abbrev pub expanded : Expansion → Item → List Item
expanded (Repeat n) x = replicate n x
expanded Words x = map Text (words_of (item_text x))

-- What a stage makes of a list. java.util.stream.Stream: map, filter, flatMap, distinct, limit, skip, takeWhile, dropWhile.
abbrev pub barrier_items : Barring → List Item → List Item
barrier_items Distinct items = distinct same_item items
barrier_items (Counted part n) items = part_list part n items
barrier_items (While part p) items = part_list part (prefix_len (holds p) items) items

abbrev pub stage_items : Stage → List Item → List Item
stage_items (Map f) items = map (image f) items
stage_items (Filter p) items = filter (holds p) items
stage_items (FlatMap e) items = flat_map (expanded e) items
stage_items (Barrier b) items = barrier_items b items

-- and what one after the other does
abbrev pub stages_items : List Stage → List Item → List Item
stages_items stages items = one_after_other stage_items stages items

-- the items of a source, behind which the texts of a file stand (java.util.stream.LongStream, range and rangeClosed)
abbrev pub origin_items : Origin → List (List ℕ) → List Item
origin_items (Range a b) texts = map Number (integers_between a b)
origin_items (Closed a b) texts = map Number (integers_between a (b +ℤ pos 1))
origin_items (Numbers numbers) texts = map Number numbers
origin_items (Lines n) texts = map Text texts

-- The value of a program, as the text that is written of it.

-- the text of a value, or of a key that is repeated where none may be
abbrev pub Told : Type 0
Told = Result (List ℕ) (List ℕ)

-- The key of the earliest place whose key came before, if there is one.
abbrev pub first_repeat : {K : Type 0} → (K → K → Bool) → List K → List K → Option K
first_repeat same earlier [] = None
first_repeat same earlier (k ∷ ks) = if list_any (same k) earlier then Some k else first_repeat same (earlier ++ k ∷ []) ks

abbrev pub repeat_or : {K : Type 0} → (K → List ℕ) → Option K → List ℕ → Told
repeat_or key_text None text = Ok text
repeat_or key_text (Some k) text = Err (key_text k)

-- Each item's key with its value where no key repeats, and else the key that is the first to. java.util.stream.Collectors, toMap by two functions.
abbrev pub strict_told : {X K V : Type 0} → (K → List ℕ) → (V → List ℕ) → (K → K → Bool) → (X → K) → (X → V) → List X → Told
strict_told key_text value_text same key value l = repeat_or key_text (first_repeat same [] (map key l)) (strict_text key_text value_text key value l)

-- What is made of items at once, inside another collector, and of some of the items.
-- java.util.stream.Collectors: counting, summingLong, maxBy, minBy, toList, joining, mapping, filtering, groupingBy; java.util.stream.Stream, findFirst.
abbrev pub base_text : Base → List Item → List ℕ
base_text bases.Count l = signed_decimal (wrapped (pos (length l)))
base_text bases.First l = optional_text item_text (first l)
base_text bases.ToList l = list_text item_text l
base_text (bases.Own (OfNumbers only.Sum)) l = signed_decimal (wrapped (int_sum (map item_number l)))
base_text (bases.Own (OfNumbers only.Max)) l = optional_text signed_decimal (reduced (larger int_cmp) (map item_number l))
base_text (bases.Own (OfNumbers only.Min)) l = optional_text signed_decimal (reduced (smaller int_cmp) (map item_number l))
base_text (bases.Own (OfTexts between)) l = delimited between (map item_text l)

abbrev pub inner_text : Inner → List Item → List ℕ
inner_text (inners.Base base) l = base_text base l
inner_text (inners.Mapping (f, base)) l = base_text base (map (image f) l)
inner_text (inners.Filtering p base) l = base_text base (filter (holds p) l)

abbrev pub summary_text : Summary → List Item → List ℕ
summary_text (summaries.Base base) l = base_text base l
summary_text (summaries.Mapping (f, inner)) l = inner_text inner (map (image f) l)
summary_text (summaries.Filtering p inner) l = inner_text inner (filter (holds p) l)
summary_text (summaries.GroupBy f inner) l = groups_text item_text same_item (image f) (inner_text inner) l

-- what is made of all items, each written as its text
abbrev pub whole_text : {X : Type 0} → (X → List ℕ) → AllItems → List X → List ℕ
whole_text text Count l = signed_decimal (wrapped (pos (length l)))
whole_text text FindFirst l = optional_text text (first l)
whole_text text ToList l = list_text text l

-- whether a test passes as many items
abbrev pub match_text : {X : Type 0} → Quantifier → (X → Bool) → List X → List ℕ
match_text AllMatch passes l = truth_text (all_meet passes l)
match_text AnyMatch passes l = truth_text (any_meets passes l)
match_text NoneMatch passes l = truth_text (not (any_meets passes l))

-- what a terminal tells of the items (java.util.stream.LongStream, Stream and Collectors)
abbrev pub terminal_told : Terminal → List Item → Told
terminal_told (Whole made) l = Ok (whole_text item_text made l)
terminal_told (Match how p) l = Ok (match_text how (holds p) l)
terminal_told (GroupBy f summary) l = Ok (groups_text item_text same_item (image f) (summary_text summary) l)
terminal_told (Partition p summary) l = Ok (parts_text (holds p) (summary_text summary) l)
terminal_told (ToMap key (value, merge)) l = Ok (merged_text item_text item_text same_item (image key) (image value) (joined merge) l)
terminal_told (ToMapStrict key value) l = strict_told item_text item_text same_item (image key) (image value) l
terminal_told (Teeing one other) l = Ok (pair_text (summary_text one l) (summary_text other l))
terminal_told (Own (OfNumbers totals.Sum)) l = Ok (signed_decimal (fold wrapped_sum (pos 0) (map item_number l)))
terminal_told (Own (OfNumbers totals.Product)) l = Ok (signed_decimal (fold wrapped_product (pos 1) (map item_number l)))
terminal_told (Own (OfNumbers totals.Max)) l = Ok (optional_text signed_decimal (reduced (larger int_cmp) (map item_number l)))
terminal_told (Own (OfNumbers totals.Min)) l = Ok (optional_text signed_decimal (reduced (smaller int_cmp) (map item_number l)))
terminal_told (Own (OfTexts (Plain between))) l = Ok (delimited between (map item_text l))
terminal_told (Own (OfTexts (Within between front back))) l = Ok (front ++ delimited between (map item_text l) ++ back)

-- what a program tells
abbrev pub program_told : Program → Told
program_told program = terminal_told program.terminal (stages_items program.stages (origin_items program.origin program.texts))

-- the answer is what is told; want of memory says nothing
abbrev pub Tells : Told → Result (List ℕ) ValueError → Type 0
Tells told (Ok text) = told ≡ Ok text
Tells told (Err errors.NoMemory) = Unit {0}
Tells told (Err (errors.DuplicateKey key)) = told ≡ Err (string_bytes key)
