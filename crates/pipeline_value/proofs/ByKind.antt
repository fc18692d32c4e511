-- A list whose members stand for those of another: what is made of it stands for what is made of the other.
use Rattle.std.{specs.Option.option_map_or, specs.Fmt.signed_decimal, proofs.Math.ListN.replicate}
use Rattle.std.specs.List.{list_any, prefix_len}
use Rattle.std.proofs.Common.{sym, ap, ap₂, ◌∙◌, map-id, ◌≡◌, ℤ, ℕ, ◌+◌, ◌||◌, Bool, true, false, cond, not, List, [], ◌∷◌, ◌++◌, map, filter, flat_map, fold, codes, refl, if◌then◌else◌, Option, Some, pos, length, Ok, ◌+ℤ◌}
use Rattle.std.proofs.lemmas.{List.map-append, List.length-map, Simd.map-map}
use Rattle.pipeline_meaning.proofs.NumberFronts.{map-copy}
use Rattle.stages.specs.Distinct.{distinct, distinct_after}
use Rattle.collectors.specs.Grouping.{of_key, pairs}
use Rattle.collectors.specs.NestedLaws.{fails}
use Rattle.collectors.specs.Reductions.{first, reduced}
use Rattle.parallel_streams.specs.Terminals.{all_meet, any_meets}
use Rattle.pipeline_language.specs.declared.grammar.Barrier.TheVariants.{Distinct, Counted, While}
use Rattle.pipeline_language.specs.{declared.item_count.ItemCount.ItemCount, Syntax.Condition, declared.grammar.Merge.Merge, declared.pipeline.NumberFunction.NumberFunction, declared.grammar.NumberTest.NumberTest, declared.grammar.Function.TheVariants.Length, declared.pipeline.TextFunction.TextFunction, declared.pipeline.TextMerge.TextMerge, declared.pipeline.Pipeline.Pipeline, declared.pipeline.TextEnd.TextEnd}
use Rattle.pipeline_language.specs.Content.{count_content, NumberBase, NumberInner, NumberStage, NumberSummary, NumberTerminal, number_base, number_function, number_inner, number_stage, number_summary, number_terminal, number_test, TextBase, TextInner, TextStage, TextSummary, TextTerminal, TextTest, TextValue, text_base, text_function, text_inner, text_merge, text_stage, text_summary, text_terminal, text_test, text_value, program_of, text_end}
use Rattle.pipeline_meaning.specs.Stages.{barrier_list, part_list, part-map}
use Rattle.value_text.specs.Texts.{entry_text, groups_text, itself, list_text, merged_text, optional_text, partition_text, parts_text, strict_text, with_commas, pair_text, truth_text}
use Rattle.pipeline_value.specs.Value.{Item, Number, Text, barrier_items, holds, item_text, same_item, first_repeat, repeat_or, strict_told, image, item_number, joined, match_text, whole_text, stage_items, stages_items, base_text, inner_text, summary_text, terminal_told, expanded, program_told}
use Rattle.stages.specs.Wrapping.{wrapped}
use Rattle.pipeline_language.specs.declared.pipeline.NumberFunction.TheVariants.{Itself}
use Rattle.pipeline_meaning.specs.Functions.{number_holds, number_image, number_join, text_holds, text_join, text_length}
use Rattle.pipeline_meaning.specs.Summaries.{number_base_text, number_inner_text, number_summary_text, text_base_text, text_groups_text, text_inner_text, text_summary_text}
use Rattle.pipeline_value.specs.Typed.{number_told, text_map_text, text_strict_told, text_told, pipeline_told, text_end_told}
use Rattle.file_words.specs.Words.{words_of}
use Rattle.pipeline_language.specs.declared.grammar.Expansion.TheVariants.{Repeat, Words}
use Rattle.pipeline_language.specs.declared.grammar.Joint.TheVariants.{Plain, Within}
use Rattle.pipeline_language.specs.declared.grammar.TextCondition.TheVariants.{Empty}
use Rattle.sources.specs.Integers.{integers_between}
use Rattle.pipeline_language.specs.declared.pipeline.NumberSource.TheVariants.{Range, Closed, Numbers}
use Rattle.pipeline_language.specs.declared.grammar.{AllItems.AllItems, Quantifier.Quantifier}
use Rattle.pipeline_language.specs.declared.grammar.AllItems.TheVariants.{Count, FindFirst, ToList}
use Rattle.pipeline_language.specs.declared.grammar.Quantifier.TheVariants.{AllMatch, AnyMatch, NoneMatch}
use Rattle.pipeline_language.specs.Grammar as grammar
use Rattle.pipeline_language.specs.declared.grammar.Barrier as barriers
use Rattle.pipeline_language.specs.declared.grammar.Base.TheVariants as bases
use Rattle.pipeline_language.specs.declared.grammar.Inner.TheVariants as inners
use Rattle.pipeline_language.specs.declared.grammar.Merge.TheVariants as merges
use Rattle.pipeline_language.specs.declared.grammar.NumberOnly.TheVariants as only
use Rattle.pipeline_language.specs.declared.grammar.NumberTotal.TheVariants as totals
use Rattle.pipeline_language.specs.declared.grammar.Stage.TheVariants as stages
use Rattle.pipeline_language.specs.declared.grammar.Summary.TheVariants as summaries
use Rattle.pipeline_language.specs.declared.grammar.Terminal.TheVariants as terminals
use Rattle.pipeline_meaning.specs.Stages as meaning
use Rattle.pipeline_language.specs.declared.pipeline.Mapped.TheVariants as values
use Rattle.pipeline_language.specs.declared.pipeline.TextFunction.TheVariants as functions
use Rattle.pipeline_language.specs.declared.pipeline.TextMerge.TheVariants as text_merges
use Rattle.pipeline_language.specs.declared.pipeline.Pipeline.TheVariants as pipelines
use Rattle.pipeline_language.specs.declared.pipeline.TextEnd.TheVariants as ends

-- a function of a choice is the choice of its values
under : {A B : Type 0} (f : A → B) (b : Bool) (u v : A) → f (cond b u v) ≡ cond b (f u) (f v)
under f true u v = refl
under f false u v = refl

module _ {X Y : Type 0} (e : X → Y) where
  pub map-both : {W Z : Type 0} (d : W → Z) (g : Y → Z) (h : X → W) → ((x : X) → g (e x) ≡ d (h x)) → (l : List X) → map g (map e l) ≡ map d (map h l)
  map-both d g h same l = map-map g e l ∙ (λ i. map (λ x. same x i) l) ∙ sym (map-map d h l)

  list_any-in : (p : Y → Bool) (l : List X) → list_any p (map e l) ≡ list_any (λ x. p (e x)) l
  list_any-in p [] = refl
  list_any-in p (x ∷ l) = ap (λ t. p (e x) || t) (list_any-in p l)

  pub flat_map-both : (g : Y → List Y) (h : X → List X) → ((x : X) → g (e x) ≡ map e (h x)) → (l : List X) → flat_map g (map e l) ≡ map e (flat_map h l)
  flat_map-both g h same [] = refl
  flat_map-both g h same (x ∷ l) = ap₂ (λ y ys. y ++ ys) (same x) (flat_map-both g h same l) ∙ sym (map-append e (h x) (flat_map h l))

  pub filter-both : (p : Y → Bool) (q : X → Bool) → ((x : X) → p (e x) ≡ q x) → (l : List X) → filter p (map e l) ≡ map e (filter q l)
  filter-both p q same [] = refl
  filter-both p q same (x ∷ l) =
      ap₂ (λ b t. cond b (e x ∷ t) t) (same x) (filter-both p q same l) ∙ sym (under (map e) (q x) (x ∷ filter q l) (filter q l))

  module _ (p : Y → Bool) (q : X → Bool) (same : (x : X) → p (e x) ≡ q x) where
    pub prefix-both : (l : List X) → prefix_len p (map e l) ≡ prefix_len q l
    prefix-both [] = refl
    prefix-both (x ∷ l) = ap₂ (λ b n. cond b (1 + n) 0) (same x) (prefix-both l)

    pub any_meets-both : (l : List X) → any_meets p (map e l) ≡ any_meets q l
    any_meets-both [] = refl
    any_meets-both (x ∷ l) = ap₂ (λ b t. cond b true t) (same x) (any_meets-both l)

    pub all_meet-both : (l : List X) → all_meet p (map e l) ≡ all_meet q l
    all_meet-both [] = refl
    all_meet-both (x ∷ l) = ap₂ (λ b t. cond b t false) (same x) (all_meet-both l)

    -- what is told of the items that fail, and of those that pass
    pub parts-both : (text : List Y → List ℕ) (told : List X → List ℕ) → ((l : List X) → text (map e l) ≡ told l) → (l : List X) → parts_text p text (map e l) ≡ parts_text q told l
    parts-both text told texts l =
        ap₂ partition_text
        (ap text (filter-both (fails p) (fails q) (λ x. ap not (same x)) l) ∙ texts (filter (fails q) l))
        (ap text (filter-both p q same l) ∙ texts (filter q l))

-- What stands for items, by the item that each is.
module _ {X : Type 0} (e : X → Item) where
  abbrev pub same : X → X → Bool
  same x y = same_item (e x) (e y)

  abbrev pub told : X → List ℕ
  told x = item_text (e x)

  distinct-after : (earlier l : List X) → distinct_after same_item (map e earlier) (map e l) ≡ map e (distinct_after same earlier l)
  distinct-after earlier [] = refl
  distinct-after earlier (x ∷ l) =
      let rest : List X = distinct_after same (earlier ++ x ∷ []) l in
      ap₂ (λ b t. cond b t (e x ∷ t)) (list_any-in e (same_item (e x)) earlier)
      (ap (λ s. distinct_after same_item s (map e l)) (sym (map-append e earlier (x ∷ []))) ∙ distinct-after (earlier ++ x ∷ []) l)
      ∙ sym (under (map e) (list_any (same x) earlier) rest (x ∷ rest))

  pub barrier-both : {P : Type 0} (test : P → Condition) (passes : P → X → Bool) → ((p : P) (x : X) → holds (test p) (e x) ≡ passes p x)
      → (b : barriers.Barrier P ItemCount) (l : List X) → barrier_items (grammar.barrier test count_content b) (map e l) ≡ map e (barrier_list same passes b l)
  barrier-both test passes tests Distinct l = distinct-after [] l
  barrier-both test passes tests (Counted part n) l = part-map e part n.number l
  barrier-both test passes tests (While part p) l =
      ap (λ n. part_list part n (map e l)) (prefix-both e (holds (test p)) (passes p) (tests p) l) ∙ part-map e part (prefix_len (passes p) l) l

  pub counted : (l : List X) → signed_decimal (wrapped (pos (length (map e l)))) ≡ signed_decimal (wrapped (pos (length l)))
  counted l = ap (λ n. signed_decimal (wrapped (pos n))) (length-map l e)

  pub first-both : (l : List X) → optional_text item_text (first (map e l)) ≡ optional_text told (first l)
  first-both [] = refl
  first-both (x ∷ l) = refl

  pub list-both : (l : List X) → list_text item_text (map e l) ≡ list_text told l
  list-both l = ap (λ ts. codes "[" ++ with_commas ts ++ codes "]") (map-map item_text e l)

  pub whole-both : (made : AllItems) (l : List X) → whole_text item_text made (map e l) ≡ whole_text told made l
  whole-both Count l = counted l
  whole-both FindFirst l = first-both l
  whole-both ToList l = list-both l

  pub match-both : (how : Quantifier) (p : Item → Bool) (q : X → Bool) → ((x : X) → p (e x) ≡ q x) → (l : List X) → match_text how p (map e l) ≡ match_text how q l
  match-both AllMatch p q alike l = ap truth_text (all_meet-both e p q alike l)
  match-both AnyMatch p q alike l = ap truth_text (any_meets-both e p q alike l)
  match-both NoneMatch p q alike l = ap (λ b. truth_text (not b)) (any_meets-both e p q alike l)

  -- the first key that comes again, by its text
  choose : (answer : List ℕ) (x : X) (b : Bool) (o : Option Item) (p : Option X) → repeat_or item_text o answer ≡ repeat_or told p answer
      → repeat_or item_text (if b then Some (e x) else o) answer ≡ repeat_or told (if b then Some x else p) answer
  choose answer x true o p rest = refl
  choose answer x false o p rest = rest

  repeat-both : (answer : List ℕ) (earlier l : List X) → repeat_or item_text (first_repeat same_item (map e earlier) (map e l)) answer ≡ repeat_or told (first_repeat same earlier l) answer
  repeat-both answer earlier [] = refl
  repeat-both answer earlier (x ∷ l) =
      let o : Option Item = first_repeat same_item (map e earlier ++ e x ∷ []) (map e l) in
      let p : Option X = first_repeat same (earlier ++ x ∷ []) l in
      ap (λ b. repeat_or item_text (if b then Some (e x) else o) answer) (list_any-in e (same_item (e x)) earlier)
      ∙ choose answer x (list_any (same x) earlier) o p
      (ap (λ s. repeat_or item_text (first_repeat same_item s (map e l)) answer) (sym (map-append e earlier (x ∷ []))) ∙ repeat-both answer (earlier ++ x ∷ []) l)

  -- what items are joined to
  module _ (join : Item → Item → Item) (joins : X → X → X) (alike : (x y : X) → join (e x) (e y) ≡ e (joins x y)) where
    fold-both : (x : X) (l : List X) → fold join (e x) (map e l) ≡ e (fold joins x l)
    fold-both x [] = refl
    fold-both x (y ∷ l) = ap (λ z. fold join z (map e l)) (alike x y) ∙ fold-both (joins x y) l

    reduced-both : (l : List X) → option_map_or item_text (reduced join (map e l)) [] ≡ option_map_or told (reduced joins l) []
    reduced-both [] = refl
    reduced-both (x ∷ l) = ap item_text (fold-both x l)

-- Entries of maps. A key stands for the key of what the item stands for.
module _ {X J : Type 0} (e : X → Item) (d : J → Item) (key : Item → Item) (keyed : X → J) (keys : (x : X) → key (e x) ≡ d (keyed x)) where
  pub groups-both : (kept : List Item → List ℕ) (made : List X → List ℕ) → ((l : List X) → kept (map e l) ≡ made l)
      → (l : List X) → groups_text item_text same_item key kept (map e l) ≡ groups_text (told d) (same d) keyed made l
  groups-both kept made texts l =
      ap (λ ts. codes "{" ++ with_commas ts ++ codes "}")
      (ap (λ ks. map (entry_text item_text itself) (pairs kept-of ks)) (ap (distinct same_item) (map-both e d key keyed keys l) ∙ distinct-after d [] (map keyed l))
      ∙ entries (distinct (same d) (map keyed l)))
    where
      kept-of : Item → List ℕ
      kept-of j = kept (of_key same_item key (map e l) j)

      of-both : (j : J) → kept-of (d j) ≡ made (of_key (same d) keyed l j)
      of-both j =
          ap kept (filter-both e (λ y. same_item (d j) (key y)) (λ x. same d j (keyed x)) (λ x. ap (same_item (d j)) (keys x)) l) ∙ texts (of_key (same d) keyed l j)

      entries : (js : List J) → map (entry_text item_text itself) (pairs kept-of (map d js)) ≡ map (entry_text (told d) itself) (pairs (λ j. made (of_key (same d) keyed l j)) js)
      entries [] = refl
      entries (j ∷ js) = ap₂ (λ u ts. (told d j ++ codes "=" ++ u) ∷ ts) (of-both j) (entries js)

  module _ {V : Type 0} (v : V → Item) (value : Item → Item) (valued : X → V) (values : (x : X) → value (e x) ≡ v (valued x)) where
    pub merged-both : (join : Item → Item → Item) (joins : V → V → V) → ((a b : V) → join (v a) (v b) ≡ v (joins a b)) → (l : List X)
        → merged_text item_text item_text same_item key value join (map e l) ≡ merged_text (told d) (told v) (same d) keyed valued joins l
    merged-both join joins alike l =
        groups-both (λ items. option_map_or item_text (reduced join (map value items)) []) (λ items. option_map_or (told v) (reduced joins (map valued items)) [])
        (λ s. ap (λ vs. option_map_or item_text (reduced join vs) []) (map-both e v value valued values s) ∙ reduced-both v join joins alike (map valued s)) l

    entries-both : (l : List X) → map (entry_text item_text item_text) (map (λ y. (key y, value y)) (map e l)) ≡ map (entry_text (told d) (told v)) (map (λ x. (keyed x, valued x)) l)
    entries-both [] = refl
    entries-both (x ∷ l) = ap₂ (λ t ts. t ∷ ts) (ap₂ (λ t u. item_text t ++ codes "=" ++ item_text u) (keys x) (values x)) (entries-both l)

    pub strict-both : (l : List X) → strict_told item_text item_text same_item key value (map e l) ≡ strict_told (told d) (told v) (same d) keyed valued l
    strict-both l =
        ap₂ (λ ks t. repeat_or item_text (first_repeat same_item [] ks) t) (map-both e d key keyed keys l) (ap (λ ts. codes "{" ++ with_commas ts ++ codes "}") (entries-both l))
        ∙ repeat-both d (strict_text (told d) (told v) keyed valued l) [] (map keyed l)

-- What is told of numbers is told of the items that they are.

pub image-number : (f : NumberFunction) (x : ℤ) → image (number_function f) (Number x) ≡ Number (number_image f x)
image-number Itself x = refl
image-number f x = refl

holds-number : (p : NumberTest) (x : ℤ) → holds (number_test p) (Number x) ≡ number_holds p x
holds-number p x = refl

pub joined-number : (m : Merge) (x y : ℤ) → joined m (Number x) (Number y) ≡ Number (number_join m x y)
joined-number merges.First x y = refl
joined-number m x y = refl

numbers-back : (l : List ℤ) → map item_number (map Number l) ≡ l
numbers-back l = map-map item_number Number l ∙ map-id l

mapped-number : (f : NumberFunction) (l : List ℤ) → map (image (number_function f)) (map Number l) ≡ map Number (map (number_image f) l)
mapped-number f l = map-both Number Number (image (number_function f)) (number_image f) (image-number f) l

stage-number : (stage : NumberStage) (l : List ℤ) → stage_items (number_stage stage) (map Number l) ≡ map Number (meaning.number_stage stage l)
stage-number (stages.Map f) l = mapped-number f l
stage-number (stages.Filter p) l = filter-both Number (holds (number_test p)) (number_holds p) (holds-number p) l
stage-number (stages.FlatMap n) l = flat_map-both Number (replicate n) (replicate n) (λ x. sym (map-copy Number n x)) l
stage-number (stages.Barrier b) l = barrier-both Number number_test number_holds holds-number b l

stages-number : (list : List NumberStage) (l : List ℤ) → stages_items (map number_stage list) (map Number l) ≡ map Number (meaning.number_stages list l)
stages-number [] l = refl
stages-number (stage ∷ list) l = ap (stages_items (map number_stage list)) (stage-number stage l) ∙ stages-number list (meaning.number_stage stage l)

pub base-number : (base : NumberBase) (l : List ℤ) → base_text (number_base base) (map Number l) ≡ number_base_text base l
base-number bases.Count l = counted Number l
base-number bases.First l = first-both Number l
base-number bases.ToList l = list-both Number l
base-number (bases.Own only.Sum) l = ap (number_base_text (bases.Own only.Sum)) (numbers-back l)
base-number (bases.Own x) l = ap (number_base_text (bases.Own x)) (numbers-back l)

pub inner-number : (inner : NumberInner) (l : List ℤ) → inner_text (number_inner inner) (map Number l) ≡ number_inner_text inner l
inner-number (inners.Base base) l = base-number base l
inner-number (inners.Mapping (f, base)) l = ap (base_text (number_base base)) (mapped-number f l) ∙ base-number base (map (number_image f) l)
inner-number (inners.Filtering p base) l =
    ap (base_text (number_base base)) (filter-both Number (holds (number_test p)) (number_holds p) (holds-number p) l) ∙ base-number base _

summary-number : (summary : NumberSummary) (l : List ℤ) → summary_text (number_summary summary) (map Number l) ≡ number_summary_text summary l
summary-number (summaries.Base base) l = base-number base l
summary-number (summaries.Mapping (f, inner)) l = ap (inner_text (number_inner inner)) (mapped-number f l) ∙ inner-number inner (map (number_image f) l)
summary-number (summaries.Filtering p inner) l =
    ap (inner_text (number_inner inner)) (filter-both Number (holds (number_test p)) (number_holds p) (holds-number p) l) ∙ inner-number inner _
summary-number (summaries.GroupBy f inner) l =
    groups-both Number Number (image (number_function f)) (number_image f) (image-number f)
    (inner_text (number_inner inner)) (number_inner_text inner) (inner-number inner) l

terminal-number : (terminal : NumberTerminal) (l : List ℤ) → terminal_told (number_terminal terminal) (map Number l) ≡ number_told terminal l
terminal-number (terminals.Whole made) l = ap Ok (whole-both Number made l)
terminal-number (terminals.Match how p) l = ap Ok (match-both Number how (holds (number_test p)) (number_holds p) (holds-number p) l)
terminal-number (terminals.GroupBy f summary) l =
    ap Ok (groups-both Number Number (image (number_function f)) (number_image f) (image-number f)
    (summary_text (number_summary summary)) (number_summary_text summary) (summary-number summary) l)
terminal-number (terminals.Partition p summary) l =
    ap Ok (parts-both Number (holds (number_test p)) (number_holds p) (holds-number p) (summary_text (number_summary summary)) (number_summary_text summary) (summary-number summary) l)
terminal-number (terminals.ToMap key (value, merge)) l =
    ap Ok (merged-both Number Number (image (number_function key)) (number_image key) (image-number key)
    Number (image (number_function value)) (number_image value) (image-number value) (joined merge) (number_join merge) (joined-number merge) l)
terminal-number (terminals.ToMapStrict key value) l =
    strict-both Number Number (image (number_function key)) (number_image key) (image-number key)
    Number (image (number_function value)) (number_image value) (image-number value) l
terminal-number (terminals.Teeing one other) l = ap Ok (ap₂ pair_text (summary-number one l) (summary-number other l))
terminal-number (terminals.Own totals.Sum) l = ap (number_told (terminals.Own totals.Sum)) (numbers-back l)
terminal-number (terminals.Own x) l = ap (number_told (terminals.Own x)) (numbers-back l)

-- what stages and a terminal tell of numbers
pub body-number : (list : List NumberStage) (terminal : NumberTerminal) (l : List ℤ)
    → terminal_told (number_terminal terminal) (stages_items (map number_stage list) (map Number l)) ≡ number_told terminal (meaning.number_stages list l)
body-number list terminal l = ap (terminal_told (number_terminal terminal)) (stages-number list l) ∙ terminal-number terminal (meaning.number_stages list l)

-- What is told of texts is told of the items that they are.

holds-text : (p : TextTest) (x : List ℕ) → holds (text_test p) (Text x) ≡ text_holds p x
holds-text Empty x = refl
holds-text p x = refl

joined-text : (m : TextMerge) (x y : List ℕ) → joined (text_merge m) (Text x) (Text y) ≡ Text (text_join m x y)
joined-text text_merges.First x y = refl
joined-text text_merges.Last x y = refl

texts-back : (l : List (List ℕ)) → map item_text (map Text l) ≡ l
texts-back l = map-map item_text Text l ∙ map-id l

-- the lengths of texts, as items
pub lengths : (l : List (List ℕ)) → map (image Length) (map Text l) ≡ map Number (map text_length l)
lengths l = map-both Text Number (image Length) text_length (λ x. refl) l

passed : (p : TextTest) (l : List (List ℕ)) → filter (holds (text_test p)) (map Text l) ≡ map Text (filter (text_holds p) l)
passed p l = filter-both Text (holds (text_test p)) (text_holds p) (holds-text p) l

pub stage-text : (stage : TextStage) (l : List (List ℕ)) → stage_items (text_stage stage) (map Text l) ≡ map Text (meaning.text_stage stage l)
stage-text (stages.Map x) l = map-both Text Text (λ t. t) (λ t. t) (λ t. refl) l
stage-text (stages.Filter p) l = passed p l
stage-text (stages.FlatMap (Repeat n)) l = flat_map-both Text (replicate n) (replicate n) (λ x. sym (map-copy Text n x)) l
stage-text (stages.FlatMap Words) l = flat_map-both Text (expanded Words) words_of (λ x. refl) l
stage-text (stages.Barrier b) l = barrier-both Text text_test text_holds holds-text b l

base-text : (base : TextBase) (l : List (List ℕ)) → base_text (text_base base) (map Text l) ≡ text_base_text base l
base-text bases.Count l = counted Text l
base-text bases.First l = first-both Text l
base-text bases.ToList l = list-both Text l
base-text (bases.Own between) l = ap (text_base_text (bases.Own between)) (texts-back l)

inner-text : (inner : TextInner) (l : List (List ℕ)) → inner_text (text_inner inner) (map Text l) ≡ text_inner_text inner l
inner-text (inners.Base base) l = base-text base l
inner-text (inners.Mapping (values.Length base)) l = ap (base_text _) (lengths l) ∙ base-number base (map text_length l)
inner-text (inners.Mapping (values.Itself base)) l = ap (base_text (text_base base)) (map-id (map Text l)) ∙ base-text base l
inner-text (inners.Filtering p base) l = ap (base_text (text_base base)) (passed p l) ∙ base-text base _

module _ (kept_text : List Item → List ℕ) (told : List (List ℕ) → List ℕ) (same : (l : List (List ℕ)) → kept_text (map Text l) ≡ told l) where
  groups-text : (f : TextFunction) (l : List (List ℕ)) → groups_text item_text same_item (image (text_function f)) kept_text (map Text l) ≡ text_groups_text f told l
  groups-text functions.Length l = groups-both Text Number (image Length) text_length (λ x. refl) kept_text told same l
  groups-text functions.Itself l = groups-both Text Text (λ x. x) itself (λ x. refl) kept_text told same l

summary-text : (summary : TextSummary) (l : List (List ℕ)) → summary_text (text_summary summary) (map Text l) ≡ text_summary_text summary l
summary-text (summaries.Base base) l = base-text base l
summary-text (summaries.Mapping (values.Length inner)) l = ap (inner_text _) (lengths l) ∙ inner-number inner (map text_length l)
summary-text (summaries.Mapping (values.Itself inner)) l = ap (inner_text (text_inner inner)) (map-id (map Text l)) ∙ inner-text inner l
summary-text (summaries.Filtering p inner) l = ap (inner_text (text_inner inner)) (passed p l) ∙ inner-text inner _
summary-text (summaries.GroupBy f inner) l = groups-text (inner_text (text_inner inner)) (text_inner_text inner) (inner-text inner) f l

-- maps whose keys are those of texts
module _ {J : Type 0} (d : J → Item) (key : Item → Item) (keyed : List ℕ → J) (keys : (x : List ℕ) → key (Text x) ≡ d (keyed x)) where
  map-text : (value : TextValue) (l : List (List ℕ)) → merged_text item_text item_text same_item key (image (text_value value).0) (joined (text_value value).1) (map Text l) ≡ text_map_text (told d) (same d) keyed value l
  map-text (values.Length m) l =
      merged-both Text d key keyed keys Number (image Length) text_length (λ x. refl) (joined m) (number_join m) (joined-number m) l
  map-text (values.Itself m) l =
      merged-both Text d key keyed keys Text (λ x. x) itself (λ x. refl) (joined (text_merge m)) (text_join m) (joined-text m) l

  strict-text : (value : TextFunction) (l : List (List ℕ)) → strict_told item_text item_text same_item key (image (text_function value)) (map Text l) ≡ text_strict_told (told d) (same d) keyed value l
  strict-text functions.Length l =
      strict-both Text d key keyed keys Number (image Length) text_length (λ x. refl) l
  strict-text functions.Itself l =
      strict-both Text d key keyed keys Text (λ x. x) itself (λ x. refl) l

pub terminal-text : (terminal : TextTerminal) (l : List (List ℕ)) → terminal_told (text_terminal terminal) (map Text l) ≡ text_told terminal l
terminal-text (terminals.Whole made) l = ap Ok (whole-both Text made l)
terminal-text (terminals.Match how p) l = ap Ok (match-both Text how (holds (text_test p)) (text_holds p) (holds-text p) l)
terminal-text (terminals.GroupBy f summary) l = ap Ok (groups-text (summary_text (text_summary summary)) (text_summary_text summary) (summary-text summary) f l)
terminal-text (terminals.Partition p summary) l =
    ap Ok (parts-both Text (holds (text_test p)) (text_holds p) (holds-text p) (summary_text (text_summary summary)) (text_summary_text summary) (summary-text summary) l)
terminal-text (terminals.ToMap functions.Length value) l = ap Ok (map-text Number (image Length) text_length (λ x. refl) value l)
terminal-text (terminals.ToMap functions.Itself value) l = ap Ok (map-text Text (λ x. x) itself (λ x. refl) value l)
terminal-text (terminals.ToMapStrict functions.Length value) l = strict-text Number (image Length) text_length (λ x. refl) value l
terminal-text (terminals.ToMapStrict functions.Itself value) l = strict-text Text (λ x. x) itself (λ x. refl) value l
terminal-text (terminals.Teeing one other) l = ap Ok (ap₂ pair_text (summary-text one l) (summary-text other l))
terminal-text (terminals.Own (Plain between)) l = ap (text_told (terminals.Own (Plain between))) (texts-back l)
terminal-text (terminals.Own (Within between front back)) l = ap (text_told (terminals.Own (Within between front back))) (texts-back l)

-- What is told of a pipeline as it is read is told of its content.

text_end-told : (end : TextEnd) (l : List (List ℕ)) → terminal_told (text_end end).1 (stages_items (text_end end).0 (map Text l)) ≡ text_end_told end l
text_end-told (ends.Terminal terminal) l = terminal-text terminal l
text_end-told (ends.Lengths body) l =
    ap (λ items. terminal_told (number_terminal body.terminal) (stages_items (map number_stage body.stages.items) items)) (lengths l)
    ∙ body-number body.stages.items body.terminal (map text_length l)

text_body-told : (stages : List TextStage) (end : TextEnd) (l : List (List ℕ))
    → terminal_told (text_end end).1 (stages_items (map text_stage stages ++ (text_end end).0) (map Text l)) ≡ text_end_told end (meaning.text_stages stages l)
text_body-told [] end l = text_end-told end l
text_body-told (stage ∷ stages) end l =
    ap (λ items. terminal_told (text_end end).1 (stages_items (map text_stage stages ++ (text_end end).0) items)) (stage-text stage l)
    ∙ text_body-told stages end (meaning.text_stage stage l)

pub told_by_content : (pipeline : Pipeline) → program_told (program_of pipeline) ≡ pipeline_told pipeline
told_by_content (pipelines.Numbers (Range range) body) = body-number body.stages.items body.terminal (integers_between range.start range.end)
told_by_content (pipelines.Numbers (Closed range) body) = body-number body.stages.items body.terminal (integers_between range.start (range.last +ℤ pos 1))
told_by_content (pipelines.Numbers (Numbers numbers) body) = body-number body.stages.items body.terminal numbers.items
told_by_content (pipelines.Texts texts body) = text_body-told body.stages.items body.end (map (λ text. text.now) texts.items)
