-- A strict map keeps the laws of a collector, and what it has made of a list.
use Rattle.std.specs.Prelude.{◌≡◌, Bool, true, false, ◌||◌, List, [], ◌∷◌, ◌++◌, fold, map, refl, Option, Some, None}
use Rattle.std.specs.Option.{option_or}
use Rattle.std.specs.List.{list_any}
use Rattle.std.proofs.Common.{sym, ap, ◌∙◌, subst, true≢false, append-nil, append_assoc}
use Rattle.std.proofs.lemmas.List.{map-append}
use Rattle.std.proofs.lemmas.List.Folds.{list_any-append}
use Rattle.std.proofs.lemmas.List.Sums.{fold_push}
use Rattle.spliterator.specs.Values.{DecidesEquality}
use Rattle.stages.specs.Distinct.{AllApart}
use Rattle.stages.specs.Tests.{either, apart-swap, or-false_left, or-false_right}
use Rattle.collectors.specs.Laws.{CollectorLaws}
use Rattle.collectors.specs.StrictMaps.{has_key, strict_put, strict_add, strict_merge, IsFirstRepeat, IsStrictMap}

none-some : {A P : Type 0} {a : A} → Some a ≡ None → P
none-some h = absurd (cc)

module _ {K C : Type 0} (same : K → K → Bool) where
  abbrev step : List (K × C) × Option K → K × C → List (K × C) × Option K
  step s e = strict_put same s.0 s.1 e

  abbrev puts : List (K × C) × Option K → List (K × C) → List (K × C) × Option K
  puts s es = fold step s es

  puts-repeated : (ss : List (K × C)) (k : K) (es : List (K × C)) → puts (ss, Some k) es ≡ (ss, Some k)
  puts-repeated ss k [] = refl
  puts-repeated ss k (e ∷ es) = puts-repeated ss k es

  has_key-last : (k : K) (ss : List (K × C)) (e : K × C) → (has_key same k ss || same k e.0) ≡ true → has_key same k (ss ++ e ∷ []) ≡ true
  has_key-last k ss e there = list_any-append (λ e. same k e.0) ss (e ∷ []) ∙ either-side (has_key same k ss) (same k e.0) there
    where
      either-side : (s t : Bool) → (s || t) ≡ true → (s || (t || false)) ≡ true
      either-side true t h = refl
      either-side false true h = refl
      either-side false false h = h

  -- a key that is there stays
  put-keeps : (k : K) (ss : List (K × C)) (r : Option K) (e : K × C) → has_key same k ss ≡ true → has_key same k (strict_put same ss r e).0 ≡ true
  put-keeps k ss (Some j) e there = there
  put-keeps k ss None e there =
      either (has_key same e.0 ss)
      (λ h. simp h there)
      (λ h. simp h (has_key-last k ss e (simp there)))

  puts-keep : (k : K) (s : List (K × C) × Option K) (es : List (K × C)) → has_key same k s.0 ≡ true → has_key same k (puts s es).0 ≡ true
  puts-keep k s [] there = there
  puts-keep k s (e ∷ es) there = puts-keep k (step s e) es (put-keeps k s.0 s.1 e there)

  -- where nothing repeated, the keys that were put are there
  puts-there : (k : K) (ss : List (K × C)) (r : Option K) (es : List (K × C)) → (puts (ss, r) es).1 ≡ None → has_key same k es ≡ true → has_key same k (puts (ss, r) es).0 ≡ true
  puts-there k ss r [] none there = absurd (true≢false (sym there))
  puts-there k ss (Some j) (e ∷ es) none there = none-some (sym (ap (λ s. s.1) (puts-repeated ss j es)) ∙ none)
  puts-there k ss None (e ∷ es) none there =
      either (has_key same e.0 ss)
      (λ h.
      let ended : puts (strict_put same ss None e) es ≡ (ss, Some e.0) = simp h (puts-repeated ss e.0 es) in
      none-some (sym (ap (λ s. s.1) ended) ∙ none))
      (λ h.
      let next : strict_put same ss None e ≡ (ss ++ e ∷ [], None) = simp h in
      let none' : (puts (ss ++ e ∷ [], None) es).1 ≡ None = sym (ap (λ s. (puts s es).1) next) ∙ none in
      let found : has_key same k (puts (ss ++ e ∷ [], None) es).0 ≡ true =
      either (same k e.0)
      (λ i. puts-keep k (ss ++ e ∷ [], None) es (has_key-last k ss e (or-true (has_key same k ss) (same k e.0) i)))
      (λ i. puts-there k (ss ++ e ∷ []) None es none' (sym (ap (λ t. t || has_key same k es) i) ∙ there)) in
      ap (λ s. has_key same k (puts s es).0) next ∙ found)
    where
      or-true : (s t : Bool) → t ≡ true → (s || t) ≡ true
      or-true true t h = refl
      or-true false t h = h

  or-none : (ss : List (K × C)) (r : Option K) → ◌≡◌ {A = List (K × C) × Option K} (ss, option_or r None) (ss, r)
  or-none ss None = refl
  or-none ss (Some k) = refl

  put-after_repeat : (ss : List (K × C)) (r : Option K) (k : K) (e : K × C) → ◌≡◌ {A = List (K × C) × Option K} (ss, option_or r (Some k)) (strict_put same ss (option_or r (Some k)) e)
  put-after_repeat ss None k e = refl
  put-after_repeat ss (Some j) k e = refl

  put-repeats : (ss : List (K × C)) (r : Option K) (e : K × C) → (r ≡ None → has_key same e.0 ss ≡ true) → ◌≡◌ {A = List (K × C) × Option K} (ss, option_or r (Some e.0)) (strict_put same ss (option_or r None) e)
  put-repeats ss None e there = simp (there refl)
  put-repeats ss (Some j) e there = refl

  -- a put on the right side is a put on both
  pub merge-put : (s : List (K × C) × Option K) (ts : List (K × C)) (r : Option K) (e : K × C)
      → strict_merge same s (strict_put same ts r e) ≡ step (strict_merge same s (ts, r)) e
  merge-put s ts (Some k) e = put-after_repeat (puts s ts).0 (puts s ts).1 k e
  merge-put s ts None e =
      either (has_key same e.0 ts)
      (λ h. simp h (put-repeats (puts s ts).0 (puts s ts).1 e (λ none. puts-there e.0 s.0 s.1 ts none h)))
      (λ h.
      let last : puts s (ts ++ e ∷ []) ≡ step (puts s ts) e = fold_push step s ts e in
      simp h
      (or-none (puts s (ts ++ e ∷ [])).0 (puts s (ts ++ e ∷ [])).1
      ∙ last
      ∙ sym (ap (λ u. step u e) (or-none (puts s ts).0 (puts s ts).1))))

  pub merge-nothing : (s : List (K × C) × Option K) → strict_merge same s ([], None) ≡ s
  merge-nothing s = or-none s.0 s.1

module _ {X K C : Type 0} (same : K → K → Bool) (key : X → K) (value : X → C) where
  pub strict_map_laws : (is_value : X → Type 0) → CollectorLaws is_value ([], None) (strict_add same key value) (strict_merge same)
  strict_map_laws is_value = record {
    identity = λ l vl. merge-nothing same (fold (strict_add same key value) ([], None) l);
    associativity = λ l r x vl vr vx.
        let right = fold (strict_add same key value) ([], None) r in
        merge-put same (fold (strict_add same key value) ([], None) l) right.0 right.1 (key x, value x);
  }

  module _ (decides : DecidesEquality same) where
    AllApart-push : (ks : List K) (k : K) → AllApart same ks → list_any (same k) ks ≡ false → AllApart same (ks ++ k ∷ [])
    AllApart-push [] k apart none = (refl, tt)
    AllApart-push (j ∷ ks) k apart none =
        let other : same j k ≡ false = apart-swap same decides k j (or-false_left (same k j) (list_any (same k) ks) none) in (
          list_any-append (same j) ks (k ∷ []) ∙ simp (apart.0, other),
          AllApart-push ks k apart.1 (or-false_right (same k j) (list_any (same k) ks) none),
        )

    has_key-of : (k : K) (l : List X) → has_key same k (map (λ x. (key x, value x)) l) ≡ list_any (same k) (map key l)
    has_key-of k [] = refl
    has_key-of k (x ∷ l) = ap (λ t. same k (key x) || t) (has_key-of k l)

    -- what a strict map has made of a list
    abbrev pub IsMade : List X → List (K × C) → Option K → Type 0
    IsMade l es None = IsStrictMap same key value l es
    IsMade l es (Some k) = IsFirstRepeat same (map key l) k

    made-add : (l : List X) (es : List (K × C)) (r : Option K) (x : X) → IsMade l es r
        → IsMade (l ++ x ∷ []) (strict_put same es r (key x, value x)).0 (strict_put same es r (key x, value x)).1
    made-add l es (Some k) x made = (
      made.0,
      made.1 ++ key x ∷ [],
      map-append key l (x ∷ []) ∙ ap (λ ks. ks ++ key x ∷ []) made.2 ∙ append_assoc made.0 (k ∷ made.1) (key x ∷ []),
      made.3,
      made.4,
    )
    made-add l es None x made =
        let there : has_key same (key x) es ≡ list_any (same (key x)) (map key l) = ap (has_key same (key x)) made.1 ∙ has_key-of (key x) l in
        either (has_key same (key x) es)
        (λ h. simp h (map key l, [], map-append key l (x ∷ []), made.0, sym there ∙ h))
        (λ h. simp h (
          subst (AllApart same) (sym (map-append key l (x ∷ []))) (AllApart-push (map key l) (key x) made.0 (sym there ∙ h)),
          ap (λ es. es ++ (key x, value x) ∷ []) made.1 ∙ sym (map-append (λ x. (key x, value x)) l (x ∷ [])),
        ))

    made-from : (done l : List X) (s : List (K × C) × Option K) → IsMade done s.0 s.1
        → IsMade (done ++ l) (fold (strict_add same key value) s l).0 (fold (strict_add same key value) s l).1
    made-from done [] s made = subst (λ l. IsMade l s.0 s.1) (sym (append-nil done)) made
    made-from done (x ∷ l) s made =
        subst (λ m. IsMade m (fold (strict_add same key value) s (x ∷ l)).0 (fold (strict_add same key value) s (x ∷ l)).1) (append_assoc done (x ∷ []) l)
        (made-from (done ++ x ∷ []) l (strict_add same key value s x) (made-add done s.0 s.1 x made))

    pub strict_map_made : (l : List X) → IsMade l (fold (strict_add same key value) ([], None) l).0 (fold (strict_add same key value) ([], None) l).1
    strict_map_made l = made-from [] l ([], None) (tt, refl)
