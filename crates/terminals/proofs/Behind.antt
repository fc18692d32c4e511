-- An item behind the first ones changes nothing of them.
use Rattle.std.specs.Prelude.{◌≡◌, ◌+◌, ◌<◌, ℕ, zero, suc, Bool, true, false, not, All, List, [], ◌∷◌, ◌++◌, Some, fold, get_or, length, map, if◌then◌else◌, option_map, refl, slice_get, take, ⊤}
use Rattle.std.proofs.Common.{ap, sym, subst, ◌∙◌, arith, length-append, true≢false}
use Rattle.std.proofs.lemmas.List.{length-map, map-append}
use Rattle.std.proofs.lemmas.Option.{slice_get-get_or, slice_get-map}
use Rattle.collectors.specs.Grouping.{contents}
use Rattle.std.proofs.lemmas.List.Elements.{All-cons, All-head, All-nil, All-tail}
use Rattle.std.specs.Cmp.{IsStrictWeakOrder}
use Rattle.stages.specs.Tests.{either}
use Rattle.terminals.specs.Bounds.{IsBehind, IsBounded}
use Rattle.terminals.specs.Insertion.{add_first, first_sorted, insert_sorted, insert-front, sorted_of}
use Rattle.terminals.proofs.Inserted.{Ascends, first-ascends}

module _ {X : Type 0} (below : X → X → Bool) where
  -- the same, member by member
  abbrev Behind : ℕ → X → List X → Type 0
  Behind zero x l = ⊤
  Behind (suc n) x [] = ⊥
  Behind (suc n) x (y ∷ l) = (below x y ≡ false) × Behind n x l

  each : (n : ℕ) (x : X) (l : List X) → IsBehind below n x l → Behind n x l
  each zero x l behind = tt
  each (suc n) x [] behind = absurd (omega (arith, behind.0))
  each (suc n) x (y ∷ l) behind =
      let P : X → Type 0 = λ z. below x z ≡ false in
      (All-head P y (take n l) behind.1, each n x l (omega (arith, behind.0), All-tail P y (take n l) behind.1))

  every : (n : ℕ) (x : X) (l : List X) → Behind n x l → IsBehind below n x l
  every zero x l behind = (omega arith, All-nil (λ z. below x z ≡ false))
  every (suc n) x [] behind = absurd behind
  every (suc n) x (y ∷ l) behind =
      let rest = every n x l behind.1 in
      (omega (arith, rest.0), All-cons (λ z. below x z ≡ false) y (take n l) behind.0 rest.1)

  behind-fewer : (n : ℕ) (x : X) (l : List X) → Behind (suc n) x l → Behind n x l
  behind-fewer zero x l behind = tt
  behind-fewer (suc n) x [] behind = behind
  behind-fewer (suc n) x (y ∷ l) behind = (behind.0, behind-fewer n x l behind.1)

  behind-more : (n : ℕ) (x : X) (l r : List X) → Behind n x l → Behind n x (l ++ r)
  behind-more zero x l r behind = tt
  behind-more (suc n) x [] r behind = absurd behind
  behind-more (suc n) x (y ∷ l) r behind = (behind.0, behind-more n x l r behind.1)

  stays : (n : ℕ) (x : X) (s : List X) → Behind n x s → take n (insert_sorted below s x) ≡ take n s
  stays zero x s behind = refl
  stays (suc n) x [] behind = absurd behind
  stays (suc n) x (y ∷ s) behind = simp behind.0 (ap (λ l. y ∷ l) (stays n x s behind.1))

  got-before : (l r : List X) (k : ℕ) → k < length l → slice_get (l ++ r) k ≡ slice_get l k
  got-before [] r k low = absurd (omega arith)
  got-before (y ∷ l) r zero low = refl
  got-before (y ∷ l) r (suc k) low = got-before l r k (omega arith)

  pub bounded-more : (n : ℕ) (l r : List X) → IsBounded below n l → IsBounded below n (l ++ r)
  bounded-more n l r bounded = (
    omega (arith, bounded.0, length-append l r),
    λ k is y got x low. every n x (l ++ r) (behind-more n x l r (each n x l (bounded.1 k is y (sym (got-before l r k (omega (arith, bounded.0, is))) ∙ got) x low))),
  )

  member : (P : X → Type 0) (l : List X) (k : ℕ) (y : X) → All P l → slice_get l k ≡ Some y → P y
  member P [] k y all got = absurd (cc)
  member P (z ∷ l) zero y all got = let same : z ≡ y = cc in subst P same (All-head P z l all)
  member P (z ∷ l) (suc k) y all got = member P l k y (All-tail P z l all) got

  module _ (weak : IsStrictWeakOrder below) where
    kept : (n : ℕ) (x y : X) (s : List X) → Behind n x s → Behind n x (insert_sorted below s y)
    kept zero x y s behind = tt
    kept (suc n) x y [] behind = absurd behind
    kept (suc n) x y (z ∷ s) behind =
        either (below y z)
        (λ h. rw h (weak.chain x z y behind.0 (weak.one_way y z h), behind-fewer n x (z ∷ s) behind))
        (λ h. rw h (behind.0, kept n x y s behind.1))

    taken : (n : ℕ) (x y : X) (s : List X) → below x y ≡ false → Behind n x s → Behind (suc n) x (insert_sorted below s y)
    taken zero x y [] low behind = (low, tt)
    taken (suc n) x y [] low behind = absurd behind
    taken zero x y (z ∷ s) low behind =
        either (below y z)
        (λ h. rw h (low, tt))
        (λ h. rw h (weak.chain x y z low h, tt))
    taken (suc n) x y (z ∷ s) low behind =
        either (below y z)
        (λ h. rw h (low, behind))
        (λ h. rw h (behind.0, taken n x y s low behind.1))

    sorted_from : (m n : ℕ) (x : X) (s l : List X) → Behind m x s → Behind n x l → Behind (m + n) x (fold (insert_sorted below) s l)
    sorted_from m zero x s [] first behind = let same : m + 0 ≡ m = omega arith in rw same first
    sorted_from m (suc n) x s [] first behind = absurd behind
    sorted_from m zero x s (y ∷ l) first behind = sorted_from m zero x (insert_sorted below s y) l (kept m x y s first) tt
    sorted_from m (suc n) x s (y ∷ l) first behind =
        let same : m + suc n ≡ suc m + n = omega arith in
        rw same (sorted_from (suc m) n x (insert_sorted below s y) l (taken m x y s behind.0 first) behind.1)

    -- an item behind the first ones isn't one of them
    pub add-behind : (n : ℕ) (l : List X) (x : X) → IsBehind below n x l → add_first below n (first_sorted below n l) x ≡ first_sorted below n l
    add-behind n l x behind =
        let same : 0 + n ≡ n = omega arith in
        let all : Behind n x (sorted_of below l) = subst (λ m. Behind m x (sorted_of below l)) same (sorted_from 0 n x [] l tt (each n x l behind)) in
        insert-front below n (sorted_of below l) x ∙ stays n x (sorted_of below l) all

    ascending-behind : (l : List X) (k : ℕ) (x y : X) → Ascends below l → suc k ≡ length l → slice_get l k ≡ Some y → below x y ≡ false → Behind (suc k) x l
    ascending-behind [] k x y up is got low = absurd (omega (arith, is))
    ascending-behind (z ∷ l) zero x y up is got low = let same : y ≡ z = cc in (subst (λ w. below x w ≡ false) same low, tt)
    ascending-behind (z ∷ l) (suc k) x y up is got low = (
      weak.chain x y z low (member (λ w. below w z ≡ false) l k y up.0 got),
      ascending-behind l k x y up.1 (omega (arith, is)) got low,
    )

    -- an ascending list is bounded by its last member
    pub ascending-bounded : (l : List X) → Ascends below l → IsBounded below (length l) l
    ascending-bounded l up = (
      omega arith,
      λ k is y got x low. every (length l) x l (subst (λ n. Behind n x l) is (ascending-behind l k x y up is got low)),
    )

-- pairs of a key and an item, by what contracts see of them
module _ {J T L C : Type 0} (key_content : J → L) (content : T → C) (below : L × C → L × C → Bool) where
  abbrev seen : List (J × T) → List (L × C)
  seen ps = contents key_content content ps

  -- pairs that more may stand behind
  pub bounded-pairs : (b : Bool) (n : ℕ) (old more new : List (J × T)) → IsBounded below n (seen old) → new ≡ (if b then old ++ more else old)
      → IsBounded below n (seen new)
  bounded-pairs true n old more new bounded is =
      let both : seen new ≡ seen old ++ seen more = ap seen is ∙ map-append (λ (p : J × T). (key_content p.0, content p.1)) old more in
      subst (IsBounded below n) (sym both) (bounded-more below n (seen old) (seen more) bounded)
  bounded-pairs false n old more new bounded is = subst (λ ps. IsBounded below n (seen ps)) (sym is) bounded

  -- pairs that are the first ones of others
  pub first-bounded : IsStrictWeakOrder below → (n number : ℕ) (old new : List (J × T)) → seen new ≡ first_sorted below number (seen old) → n ≡ length new
      → IsBounded below n (seen new)
  first-bounded weak n number old new first is =
      let up : Ascends below (seen new) = subst (Ascends below) (sym first) (first-ascends below weak number (seen old)) in
      subst (λ m. IsBounded below m (seen new)) (length-map new (λ (p : J × T). (key_content p.0, content p.1)) ∙ sym is) (ascending-bounded below weak (seen new) up)

  -- what isn't below the last of the bounded pairs
  pub behind-bound : (n last : ℕ) (ps : List (J × T)) (p : J × T) (x : L × C) (is_below : Bool) → IsBounded below n (seen ps) → suc last ≡ n
      → last < length ps → p ≡ get_or ps last p → is_below ≡ below x (key_content p.0, content p.1) → not is_below ≡ true → IsBehind below n x (seen ps)
  behind-bound n last ps p x true bounded is within at low not_below = absurd (true≢false (sym not_below))
  behind-bound n last ps p x false bounded is within at low not_below =
      let f : J × T → L × C = λ p. (key_content p.0, content p.1) in
      let got : slice_get ps last ≡ Some p = slice_get-get_or ps last p within ∙ ap Some (sym at) in
      bounded.1 last is (f p) (slice_get-map f ps last ∙ ap (option_map f) got) x (sym low)
