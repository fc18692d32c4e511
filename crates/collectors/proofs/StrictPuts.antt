-- What a change of a strict map's entries is to their contents.
use Rattle.std.proofs.Common.{◌≡◌, Bool, true, false, List, [], ◌∷◌, ◌++◌, Option, Some, None, option_map, refl, sym, ap, ◌∙◌, true≢false}
use Rattle.std.specs.Option.{is_some}
use Rattle.std.specs.Map.{lookup}
use Rattle.std.proofs.lemmas.List.{map-append}
use Rattle.indexmap.specs.IndexMap.{insert_entry}
use Rattle.stages.specs.Tests.{either}
use Rattle.collectors.specs.Grouping.{contents}
use Rattle.collectors.specs.StrictMaps.{has_key, strict_put}
use Rattle.collectors.proofs.Entries.{insert_entry-last}

none-of : {A P : Type 0} (o : Option A) → is_some o ≡ false → (o ≡ None → P) → P
none-of None h f = f refl
none-of (Some a) h f = absurd (true≢false h)

module _ {K V J B : Type 0} (eq : K → K → Bool) (same : J → J → Bool) (of_keys : K → J) (of_values : V → B)
    (agree : (j k : K) → eq j k ≡ same (of_keys j) (of_keys k)) where
  has_key-contents : (k : K) (es : List (K × V)) → has_key same (of_keys k) (contents of_keys of_values es) ≡ is_some (lookup (eq k) es)
  has_key-contents k [] = refl
  has_key-contents k (e ∷ es) =
      either (eq k e.0)
      (λ h.
      let h' : same (of_keys k) (of_keys e.0) ≡ true = sym (agree k e.0) ∙ h in
      simp (h, h'))
      (λ h.
      let h' : same (of_keys k) (of_keys e.0) ≡ false = sym (agree k e.0) ∙ h in
      simp (h, h') (has_key-contents k es))

  abbrev put_into : List (K × V) → Option K → K → V → List (J × B) × Option J
  put_into es r k v = strict_put same (contents of_keys of_values es) (option_map of_keys r) (of_keys k, of_values v)

  -- after a repeat
  pub put-ended : (es : List (K × V)) (r : Option K) (k : K) (v : V) → is_some r ≡ true
      → ◌≡◌ {A = List (J × B) × Option J} (contents of_keys of_values es, option_map of_keys r) (put_into es r k v)
  put-ended es None k v ended = absurd (true≢false (sym ended))
  put-ended es (Some j) k v ended = refl

  -- a key that is there
  pub put-repeat : (es : List (K × V)) (r : Option K) (k : K) (v : V) → is_some r ≡ false → is_some (lookup (eq k) es) ≡ true
      → ◌≡◌ {A = List (J × B) × Option J} (contents of_keys of_values es, Some (of_keys k)) (put_into es r k v)
  put-repeat es (Some j) k v none there = absurd (true≢false none)
  put-repeat es None k v none there = simp (has_key-contents k es ∙ there)

  -- a new key
  pub put-new : (es : List (K × V)) (r : Option K) (k : K) (v : V) → is_some r ≡ false → is_some (lookup (eq k) es) ≡ false
      → ◌≡◌ {A = List (J × B) × Option J} (contents of_keys of_values (insert_entry eq es k v), option_map of_keys r) (put_into es r k v)
  put-new es (Some j) k v none absent = absurd (true≢false none)
  put-new es None k v none absent =
      none-of (lookup (eq k) es) absent
      (λ h.
      let last : contents of_keys of_values (insert_entry eq es k v) ≡ contents of_keys of_values es ++ (of_keys k, of_values v) ∷ [] =
      ap (contents of_keys of_values) (insert_entry-last eq k v es h) ∙ map-append (λ e. (of_keys e.0, of_values e.1)) es ((k, v) ∷ []) in
      simp (has_key-contents k es ∙ absent) (ap (λ es. (es, None)) last))
