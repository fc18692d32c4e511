-- What the language's stages make of a list, once for all kinds of items.
use Rattle.std.specs.Prelude.{◌≡◌, ℕ, ℤ, Bool, true, false, List, map, filter, flat_map, take, drop, bytes_eq}
use Rattle.std.{proofs.Math.ListN.replicate, specs.List.prefix_len, specs.Ordering.int_eq}
use Rattle.std.proofs.lemmas.List.{take-map, drop-map}
use Rattle.spliterator.specs.Values.{DecidesEquality, int_eq-decides, bytes_eq-decides}
use Rattle.stages.specs.Distinct.{distinct}
use Rattle.file_words.specs.Words.{words_of}
use Rattle.pipeline_language.specs.declared.grammar.Barrier as barriers
use Rattle.pipeline_language.specs.declared.grammar.Barrier.TheVariants.{Distinct, Counted, While}
use Rattle.pipeline_language.specs.declared.grammar.Part.TheVariants.{Front, Rest}
use Rattle.pipeline_language.specs.declared.{grammar.Expansion.Expansion, grammar.Part.Part, grammar.Stage.Stage, item_count.ItemCount.ItemCount, grammar.NumberTest.NumberTest, pipeline.NumberFunction.NumberFunction}
use Rattle.pipeline_language.specs.declared.grammar.Expansion.TheVariants.{Repeat, Words}
use Rattle.pipeline_language.specs.declared.grammar.Stage.TheVariants.{Map, Filter, FlatMap, Barrier}
use Rattle.pipeline_language.specs.Content.{NumberStage, TextStage, TextTest}
use Rattle.pipeline_meaning.specs.Functions.{number_image, number_holds, text_holds}
use Rattle.pipeline_meaning.specs.Walks.{one_after_other}

-- What functions, tests and expansions do with items, and when two items are one.
pub record Meaning (F P E X : Type 0) : Type 0 where
  pub same : X → X → Bool
  pub image : F → X → X
  pub holds : P → X → Bool
  pub expand : E → X → List X
  pub decides : DecidesEquality same

-- what stays of items that are cut behind so many
abbrev pub part_list : {X : Type 0} → Part → ℕ → List X → List X
part_list Front n items = take n items
part_list Rest n items = drop n items

pub part-map : {X Y : Type 0} (e : X → Y) (part : Part) (n : ℕ) (l : List X) → part_list part n (map e l) ≡ map e (part_list part n l)
part-map e Front n l = take-map e n l
part-map e Rest n l = drop-map e n l

-- The stages are those of java.util.stream.Stream: map, filter, flatMap, distinct, limit, skip, takeWhile, dropWhile.
-- A barrier goes by when items are the same, and by what its test holds of.
abbrev pub barrier_list : {P X : Type 0} → (X → X → Bool) → (P → X → Bool) → barriers.Barrier P ItemCount → List X → List X
barrier_list same holds Distinct items = distinct same items
barrier_list same holds (Counted part n) items = part_list part n.number items
barrier_list same holds (While part p) items = part_list part (prefix_len (holds p) items) items

abbrev pub StageOf : Type 0 → Type 0 → Type 0 → Type 0
StageOf F P E = Stage F P E ItemCount

abbrev pub stage_list : {F P E X : Type 0} → Meaning F P E X → StageOf F P E → List X → List X
stage_list m (Map f) items = map (m.image f) items
stage_list m (Filter p) items = filter (m.holds p) items
stage_list m (FlatMap e) items = flat_map (m.expand e) items
stage_list m (Barrier b) items = barrier_list m.same m.holds b items

-- one stage after the other
abbrev pub stages_list : {F P E X : Type 0} → Meaning F P E X → List (StageOf F P E) → List X → List X
stages_list m stages items = one_after_other (stage_list m) stages items

abbrev pub number_meaning : Meaning NumberFunction NumberTest ℕ ℤ
number_meaning = record { same = int_eq; image = number_image; holds = number_holds; expand = replicate; decides = int_eq-decides }

abbrev pub text_expanded : Expansion → List ℕ → List (List ℕ)
text_expanded (Repeat n) text = replicate n text
text_expanded Words text = words_of text

abbrev pub text_meaning : Meaning (Unit {0}) TextTest Expansion (List ℕ)
text_meaning = record { same = bytes_eq; image = λ f text. text; holds = text_holds; expand = text_expanded; decides = bytes_eq-decides }

abbrev pub number_stage : NumberStage → List ℤ → List ℤ
number_stage stage items = stage_list number_meaning stage items

abbrev pub number_stages : List NumberStage → List ℤ → List ℤ
number_stages stages items = stages_list number_meaning stages items

abbrev pub text_stage : TextStage → List (List ℕ) → List (List ℕ)
text_stage stage items = stage_list text_meaning stage items

abbrev pub text_stages : List TextStage → List (List ℕ) → List (List ℕ)
text_stages stages items = stages_list text_meaning stages items

-- a map gives one item for each
abbrev pub is_map_stage : {F P E N : Type 0} → Stage F P E N → Bool
is_map_stage (Map f) = true
is_map_stage stage = false

-- A barrier looks at more than one item.
abbrev pub is_barrier_stage : {F P E N : Type 0} → Stage F P E N → Bool
is_barrier_stage (Barrier b) = true
is_barrier_stage stage = false
