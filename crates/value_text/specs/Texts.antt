-- The texts of values and of collectors' results, as an answer is written: a list of bytes each. Each is stated over the texts of its members.
use Rattle.std.specs.Prelude.{ℕ, Bool, true, false, List, [], ◌++◌, map, filter, codes, Option, Some, None, ◌≡◌, ⊤, ◌∷◌, All, fold, refl, option_map}
use Rattle.std.specs.Option.{option_map_or}
use Rattle.collectors.specs.Grouping.{groups, IsGrouping, of_key, pairs, contents}
use Rattle.collectors.specs.NestedLaws.{fails, add_image, mapping_laws}
use Rattle.collectors.specs.Reductions.{reduced, delimited, first, reduce_add, reduce_merge}
use Rattle.std.proofs.Common.{ap, ap₂, ◌∙◌}
use Rattle.std.proofs.lemmas.List.Elements.{All-head, All-tail}
use Rattle.either.specs.{declared.Either.Either, Either.either}
use Rattle.either.specs.declared.Either.TheVariants.{Left, Right}
use Rattle.stages.specs.{Choices.first_of, Distinct.distinct}
use Rattle.collectors.specs.{Laws.CollectorLaws, Either.either_gives}
use Rattle.collectors.specs.Texts.{join_with, joining_laws}

-- `true` or `false`
abbrev pub truth_text : Bool → List ℕ
truth_text true = codes "true"
truth_text false = codes "false"

-- a value that may be missing: `Optional[5]`, `Optional.empty`
abbrev pub optional_text : {A : Type 0} → (A → List ℕ) → Option A → List ℕ
optional_text text None = codes "Optional.empty"
optional_text text (Some x) = codes "Optional[" ++ text x ++ codes "]"

-- texts with `, ` between neighbours
abbrev pub with_commas : List (List ℕ) → List ℕ
with_commas texts = delimited (codes ", ") texts

-- a list: `[1, 2, 3]`, `[]`
abbrev pub list_text : {A : Type 0} → (A → List ℕ) → List A → List ℕ
list_text text l = codes "[" ++ with_commas (map text l) ++ codes "]"

-- one entry of a map: `1=a`
abbrev pub entry_text : {K V : Type 0} → (K → List ℕ) → (V → List ℕ) → K × V → List ℕ
entry_text key_text value_text e = key_text e.0 ++ codes "=" ++ value_text e.1

-- a map, in the order of its entries: `{1=a, 0=b}`, `{}`
abbrev pub map_text : {K V : Type 0} → (K → List ℕ) → (V → List ℕ) → List (K × V) → List ℕ
map_text key_text value_text es = codes "{" ++ with_commas (map (entry_text key_text value_text) es) ++ codes "}"

-- a partition, by the texts of its sides: `{false=x, true=y}`
abbrev pub partition_text : List ℕ → List ℕ → List ℕ
partition_text failing passing = codes "{false=" ++ failing ++ codes ", true=" ++ passing ++ codes "}"

-- two results, by their texts: `[x, y]`
abbrev pub pair_text : List ℕ → List ℕ → List ℕ
pair_text first second = codes "[" ++ first ++ codes ", " ++ second ++ codes "]"

-- a text, as it stands
abbrev pub itself : List ℕ → List ℕ
itself text = text

-- Each distinct key, in the order of the first items, with the text of its items. java.util.stream.Collectors, groupingBy.
abbrev pub groups_text : {X K : Type 0} → (K → List ℕ) → (K → K → Bool) → (X → K) → (List X → List ℕ) → List X → List ℕ
groups_text key_text same key text l = map_text key_text itself (groups same key text l)

-- The text of the items that fail the test, and of those that pass. java.util.stream.Collectors, partitioningBy.
abbrev pub parts_text : {X : Type 0} → (X → Bool) → (List X → List ℕ) → List X → List ℕ
parts_text test text l = partition_text (text (filter (fails test) l)) (text (filter test l))

-- Each distinct key, in the order of the first items, with its items' values merged from left to right.
-- java.util.stream.Collectors, toMap with a merge function.
abbrev pub merged_text : {X K V : Type 0} → (K → List ℕ) → (V → List ℕ) → (K → K → Bool) → (X → K) → (X → V) → (V → V → V) → List X → List ℕ
merged_text key_text value_text same key value join l = groups_text key_text same key (λ items. option_map_or value_text (reduced join (map value items)) []) l

-- Each item's key with its value, in the order of the items, where no key comes twice. java.util.stream.Collectors, toMap by two functions.
abbrev pub strict_text : {X K V : Type 0} → (K → List ℕ) → (V → List ℕ) → (X → K) → (X → V) → List X → List ℕ
strict_text key_text value_text key value l = map_text key_text value_text (map (λ x. (key x, value x)) l)

-- The texts of results, by what the results are seen as.

module _ {A C : Type 0} (text : A → List ℕ) (content : A → C) (spelling : C → List ℕ) (spelled : (x : A) → text x ≡ spelling (content x)) where
  pub optional_tells : (o : Option A) (p : Option C) → option_map content o ≡ p → optional_text text o ≡ optional_text spelling p
  optional_tells None p h = ap (optional_text spelling) h
  optional_tells (Some x) p h = ap (λ t. codes "Optional[" ++ t ++ codes "]") (spelled x) ∙ ap (optional_text spelling) h

-- items' texts that are joined
pub joined_text_laws : {X : Type 0} (spelling : X → List ℕ) (between : List ℕ) (is_value : X → Type 0)
    → CollectorLaws is_value None (add_image spelling None (reduce_add (join_with between))) (reduce_merge (join_with between))
joined_text_laws spelling between is_value =
    mapping_laws spelling None (reduce_add (join_with between)) is_value (λ _. ⊤) (λ _ _. tt) (reduce_merge (join_with between)) (joining_laws between (λ _. ⊤))

-- the text of the side that is there
pub either_tells : {C D L R S : Type 0} {gives : C → L → R → Type 0} {gives' : D → L → S → Type 0} {text : R → List ℕ} {text' : S → List ℕ}
    {summary : C → L → List ℕ} {summary' : D → L → List ℕ}
    → ((c : C) (l : L) (made : R) → gives c l made → text made ≡ summary c l) → ((d : D) (l : L) (made : S) → gives' d l made → text' made ≡ summary' d l)
    → (e : Either C D) (l : L) (made : Either R S) → either_gives gives gives' e l made → either text text' made ≡ either summary summary' e l
either_tells tells tells' (Left c) l (Left r) h = tells c l r h
either_tells tells tells' (Left c) l (Right s) h = absurd h
either_tells tells tells' (Right d) l (Left r) h = absurd h
either_tells tells tells' (Right d) l (Right s) h = tells' d l s h

module _ {K J V : Type 0} (text : K → List ℕ) (content : K → J) (spelling : J → List ℕ) (spelled : (k : K) → text k ≡ spelling (content k)) where
  module _ (value_text : V → List ℕ) (gives : J → V → Type 0) (kept : J → List ℕ) (tells : (j : J) (v : V) → gives j v → value_text v ≡ kept j) where
    entries-same : (es : List (K × V)) → All (λ e. gives (content e.0) e.1) es
        → map (entry_text text value_text) es ≡ map (entry_text spelling itself) (pairs kept (map (λ e. content e.0) es))
    entries-same [] all = refl
    entries-same (e ∷ es) all =
        let here = tells (content e.0) e.1 (All-head (λ e. gives (content e.0) e.1) e es all) in
        let rest = entries-same es (All-tail (λ e. gives (content e.0) e.1) e es all) in
        ap₂ (λ t ts. t ∷ ts) (ap₂ (λ k v. k ++ codes "=" ++ v) (spelled e.0) here) rest

    -- the entries by their keys, where each value's text follows from its key
    pub entries_tell : (ks : List J) (es : List (K × V)) → map (λ e. content e.0) es ≡ ks → All (λ e. gives (content e.0) e.1) es
        → map_text text value_text es ≡ map_text spelling itself (pairs kept ks)
    entries_tell ks es keys all =
        ap (λ ts. codes "{" ++ with_commas ts ++ codes "}")
        (entries-same es all ∙ ap (λ ks. map (entry_text spelling itself) (pairs kept ks)) keys)

  module _ {X : Type 0} (same : J → J → Bool) (key : X → J) (value_text : V → List ℕ) where
    -- the groups of a list, each with the text of its items
    pub groups_tell : (gives : List X → V → Type 0) (summary : List X → List ℕ) → ((l : List X) (v : V) → gives l v → value_text v ≡ summary l)
        → (l : List X) (es : List (K × V)) → IsGrouping content same key gives l es → map_text text value_text es ≡ groups_text spelling same key summary l
    groups_tell gives summary tells l es grouping =
        entries_tell value_text (λ j v. gives (of_key same key l j) v) (λ j. summary (of_key same key l j)) (λ j v h. tells (of_key same key l j) v h)
        (distinct same (map key l)) es grouping.0 grouping.1

  -- a map of merged values
  pub merged_tells : {X C : Type 0} (same : J → J → Bool) (key : X → J) (value_text : V → List ℕ) (value_content : V → C) (value_spelling : C → List ℕ)
      → ((v : V) → value_text v ≡ value_spelling (value_content v)) → (merged : List X → Option C)
      → (l : List X) (es : List (K × V)) → IsGrouping content same key (λ s v. Some (value_content v) ≡ merged s) l es
      → map_text text value_text es ≡ groups_text spelling same key (λ s. option_map_or value_spelling (merged s) []) l
  merged_tells same key value_text value_content value_spelling value_spelled merged l es grouping =
      groups_tell same key value_text (λ s v. Some (value_content v) ≡ merged s) (λ s. option_map_or value_spelling (merged s) [])
      (λ s v h. value_spelled v ∙ ap (λ o. option_map_or value_spelling o []) h) l es grouping

  module _ {C : Type 0} (value_text : V → List ℕ) (value_content : V → C) (value_spelling : C → List ℕ) (value_spelled : (v : V) → value_text v ≡ value_spelling (value_content v)) where
    contents-same : (es : List (K × V)) → map (entry_text text value_text) es ≡ map (entry_text spelling value_spelling) (contents content value_content es)
    contents-same [] = refl
    contents-same (e ∷ es) = ap₂ (λ t ts. t ∷ ts) (ap₂ (λ k v. k ++ codes "=" ++ v) (spelled e.0) (value_spelled e.1)) (contents-same es)

    -- a map by its contents
    pub contents_tell : (es : List (K × V)) (fs : List (J × C)) → contents content value_content es ≡ fs → map_text text value_text es ≡ map_text spelling value_spelling fs
    contents_tell es fs h =
        ap (λ ts. codes "{" ++ with_commas ts ++ codes "}") (contents-same es ∙ ap (map (entry_text spelling value_spelling)) h)

kept_from : {C : Type 0} (a : C) (l : List C) → fold first_of a l ≡ a
kept_from a [] = refl
kept_from a (x ∷ l) = kept_from a l

-- the first item is what keeping the earlier of two leaves
pub reduced-first_of : {C : Type 0} (l : List C) → reduced first_of l ≡ first l
reduced-first_of [] = refl
reduced-first_of (x ∷ l) = ap Some (kept_from x l)

-- groups by keys that are one, with texts that are one
pub groups-same : {X K : Type 0} (key_text : K → List ℕ) (same : K → K → Bool) (key key' : X → K) (text text' : List X → List ℕ) → key ≡ key' → ((l : List X) → text l ≡ text' l)
    → (l : List X) → groups_text key_text same key text l ≡ groups_text key_text same key' text' l
groups-same key_text same key key' text text' keys texts l = λ i. groups_text key_text same (keys i) (λ s. texts s i) l
