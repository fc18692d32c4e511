-- The entries of a map.
use Rattle.std.specs.Prelude.{◌≡◌, ◌^◌, ◌<◌, ◌≤◌, ◌/◌, ◌&&◌, Bool, false, List, [], ◌∷◌, length, map, take, drop}
use Rattle.std.specs.List.{AllByRecursion, IsDistinct, zip}
use Rattle.std.proofs.Common.{ap, ap₂, sym, ◌∙◌, arith}
use Rattle.std.proofs.lemmas.List.{length-map, take-map, drop-map}
use Rattle.std.proofs.lemmas.Slice.Zip.{length-zip}
use Rattle.indexmap.proofs.ReorderLemmas.{zip-take, zip-drop}
use Rattle.std.specs.declared.cmp.Ordering.{Ordering}
use Rattle.spliterator.specs.Pairs.{both, both-decides}
use Rattle.spliterator.specs.Spliterator.{IsSoundFor}
use Rattle.spliterator.specs.Values.{DecidesEquality}
use Rattle.sources.specs.HalvesLaws.{CountsItems}
use Rattle.sources.specs.Differing.{told_differing, CountsItems-few, IsSoundFor-differing}

-- the contents of entries, by those of keys and of values
-- java.util.Map, entrySet
abbrev pub entry_contents : {K V C D : Type 0} → (K → C) → (V → D) → List (K × V) → List (C × D)
entry_contents of_keys of_values entries = map (λ e. (of_keys e.0, of_values e.1)) entries

pub length-entries : {K V : Type 0} (ks : List K) (vs : List V) → length vs ≡ length ks → length (zip ks vs) ≡ length ks
length-entries ks vs paired =
    let count = length-zip ks vs in
    omega arith

pub few-entries : {K V : Type 0} (ks : List K) (vs : List V) → length vs ≡ length ks → length ks < 2 ^ 63 → length (zip ks vs) < 2 ^ 63
few-entries ks vs paired few =
    let count = length-entries ks vs paired in
    omega arith

module _ {S K V C D : Type 0} (of_keys : K → C) (of_values : V → D) (keys : S → List K) (values : S → List V) where
  -- the contents of a source's entries, whose keys and values stand apart
  abbrev pub contents_at : S → List (C × D)
  contents_at s = entry_contents of_keys of_values (zip (keys s) (values s))

  -- a source of few entries counts them, and always tells so
  pub CountsItems-entries : ((s : S) → length (values s) ≡ length (keys s)) → ((s : S) → length (keys s) < 2 ^ 63)
      → CountsItems contents_at (λ s. length (contents_at s)) (λ s. length (contents_at s)) (λ _. told_differing)
  CountsItems-entries paired few =
      let few_pairs : (s : S) → length (zip (keys s) (values s)) < 2 ^ 63 = λ s. few-entries (keys s) (values s) (paired s) (few s) in
      CountsItems-few (λ s. zip (keys s) (values s)) (λ e. (of_keys e.0, of_values e.1)) few_pairs

module _ {K V C D : Type 0} (of_keys : K → C) (of_values : V → D) where
  -- the first entry, and the others
  pub entries-first : (ks : List K) (vs : List V) (k : K) (others : List K) (v : V) (rest : List V) → ks ≡ k ∷ others → vs ≡ v ∷ rest
      → entry_contents of_keys of_values (zip ks vs) ≡ (of_keys k, of_values v) ∷ entry_contents of_keys of_values (zip others rest)
  entries-first ks vs k others v rest e f = ap₂ (λ a b. entry_contents of_keys of_values (zip a b)) e f

  pub length-contents : (ks : List K) (vs : List V) → length vs ≡ length ks → length (entry_contents of_keys of_values (zip ks vs)) ≡ length ks
  length-contents ks vs paired = length-map (zip ks vs) (λ e. (of_keys e.0, of_values e.1)) ∙ length-entries ks vs paired

  -- keys and values that are cut in half are the entries, cut so
  pub entries-halves : (ks : List K) (vs : List V) → length vs ≡ length ks → 2 ≤ length ks
      → (2 ≤ length (entry_contents of_keys of_values (zip ks vs)))
      × (entry_contents of_keys of_values (zip (take (length ks / 2) ks) (take (length ks / 2) vs)) ≡ take (length (entry_contents of_keys of_values (zip ks vs)) / 2) (entry_contents of_keys of_values (zip ks vs)))
      × (entry_contents of_keys of_values (zip (drop (length ks / 2) ks) (drop (length ks / 2) vs)) ≡ drop (length (entry_contents of_keys of_values (zip ks vs)) / 2) (entry_contents of_keys of_values (zip ks vs)))
  entries-halves ks vs paired two =
      let pair : K × V → C × D = λ e. (of_keys e.0, of_values e.1) in
      let half = length ks / 2 in
      let count : length (entry_contents of_keys of_values (zip ks vs)) ≡ length ks = length-contents ks vs paired in
      let cut : half ≡ length (entry_contents of_keys of_values (zip ks vs)) / 2 = ap (λ n. n / 2) (sym count) in (
        omega arith,
        ap (map pair) (zip-take half ks vs) ∙ sym (take-map pair half (zip ks vs)) ∙ ap (λ n. take n (map pair (zip ks vs))) cut,
        ap (map pair) (zip-drop half ks vs paired) ∙ sym (drop-map pair half (zip ks vs)) ∙ ap (λ n. drop n (map pair (zip ks vs))) cut,
      )

  module _ (eq : K → K → Bool) (same_key : C → C → Bool) (same_value : D → D → Bool) (agree : (x y : K) → eq x y ≡ same_key (of_keys x) (of_keys y)) where
    others-differ : (k : K) (v : V) (ks : List K) (vs : List V) → AllByRecursion (λ y. eq k y ≡ false) ks
        → AllByRecursion (λ e. both same_key same_value (of_keys k, of_values v) e ≡ false) (entry_contents of_keys of_values (zip ks vs))
    others-differ k v [] vs differ = tt
    others-differ k v (y ∷ ks) [] differ = tt
    others-differ k v (y ∷ ks) (w ∷ vs) differ =
        (ap (λ b. b && same_value (of_values v) (of_values w)) (sym (agree k y) ∙ differ.0), others-differ k v ks vs differ.1)

    -- entries whose keys differ have contents that differ
    pub entries-differ : (ks : List K) (vs : List V) → IsDistinct eq ks → IsDistinct (both same_key same_value) (entry_contents of_keys of_values (zip ks vs))
    unfolding IsDistinct
    entries-differ [] vs differ = tt
    entries-differ (k ∷ ks) [] differ = tt
    entries-differ (k ∷ ks) (v ∷ vs) differ = (others-differ k v ks vs differ.0, entries-differ ks vs differ.1)

    -- such entries may be told to, whatever their order
    pub IsSoundFor-entries : (order : C × D → C × D → Ordering) → DecidesEquality same_key → DecidesEquality same_value
        → (ks : List K) (vs : List V) → IsDistinct eq ks → IsSoundFor order told_differing (entry_contents of_keys of_values (zip ks vs))
    IsSoundFor-entries order key_decides value_decides ks vs differ =
        let decides = both-decides same_key same_value key_decides value_decides in
        let items = entry_contents of_keys of_values (zip ks vs) in
        IsSoundFor-differing order (both same_key same_value) decides items (entries-differ ks vs differ)
