-- What a keeper keeps of what it is offered.
use Rattle.std.proofs.Common.{◌≡◌, ◌<◌, ◌≤◌, ◌^◌, ◌+◌, ◌-◌, ◌++◌, ◌∷◌, ℕ, Bool, true, false, List, [], Option, Some, None, arith, cond, add-zero, refl, ap, ap₂, sym, ◌∙◌, append_assoc, append-nil, subst, inl, inr, map, take, drop, length, ⊎_elim}
use Rattle.std.specs.Prelude.{count_by, All, fold, ◌⊎◌}
use Rattle.std.proofs.lemmas.List.{take-append-drop, map-append, drop_all, length-map, length-take, take-map, take-take}
use Rattle.std.proofs.lemmas.List.Elements.{All-push, All-append}
use Rattle.std.proofs.lemmas.List.Sums.{fold-append, sum_by-append, sum_by-take-le}
use Rattle.barriers.specs.Needs.{IsBelow, CountsNone, Reaches, CountsLast}
use Rattle.barriers.specs.NeedLaws.{CountsLast-append, CountsLast-none, CountsLast-one}
use Rattle.leaf_reading.specs.declared.leaf_end.Portion.{Portion}
use Rattle.leaf_reading.specs.Fronts.{IsWithin, Folding, KeepsFront}
use Rattle.leaf_reading.specs.KeeperLaws.{Offers}

-- what counts while the need isn't reached may be counted
pub count_fits : {T : Type 0} (need : Option ℕ) (counted : T → Bool) (x : T) (n : ℕ) → IsBelow need (2 ^ 63) → CountsNone need counted → (Reaches need n → ⊥) → counted x ≡ true → n < 2 ^ 63
count_fits None counted x n fits never under met = let no : counted x ≡ false = never x in cc
count_fits (Some r) counted x n fits never under met = omega arith

-- a count that hasn't reached the need may grow by one counting item
within_more : {T : Type 0} (need : Option ℕ) (counted : T → Bool) (x : T) (n : ℕ) → CountsNone need counted → (Reaches need n → ⊥) → IsWithin need n → IsWithin need (n + cond (counted x) 1 0)
within_more None counted x n never under met = rw (never x) (rw add-zero met)
within_more (Some r) counted x n never under met =
    let P : Bool → Type 0 = λ b. n + cond b 1 0 ≤ r in
    let some : P true = omega arith in
    let none : P false = omega arith in
    elim (counted x) as P [ true ↦ some | false ↦ none ]

-- where nothing counts, the count is 0
pub count_none : {T : Type 0} (counted : T → Bool) → ((x : T) → counted x ≡ false) → (xs : List T) → count_by counted xs ≡ 0
count_none counted none [] = refl
count_none counted none (x ∷ xs) =
    sum_by-append (λ y. cond (counted y) 1 0) (x ∷ []) xs ∙ ap₂ (λ (a b : ℕ). a + b) (ap (λ b. 0 + cond b 1 0) (none x)) (count_none counted none xs)

within_none : (need : Option ℕ) → IsWithin need 0
within_none None = refl
within_none (Some r) = omega arith

-- a part of the images of what is taken is the images of a part of the block
taken-within : {X T : Type 0} (item : X → T) (taken : ℕ) (block front : List X) → take taken block ≡ front → (n : ℕ) → n < length (map item front) → n < taken
taken-within item taken block front is n within = omega (arith, within, length-map front item, ap length is, length-take taken block)

front-taken : {X T : Type 0} (item : X → T) (taken : ℕ) (block front : List X) → take taken block ≡ front → (n : ℕ) → n < length (map item front) → take n (map item front) ≡ map item (take n block)
front-taken item taken block front is n within =
    let less = taken-within item taken block front is n within in
    take-map item n front ∙ ap (λ l. map item (take n l)) (sym is) ∙ ap (map item) (take-take n taken block (omega (arith, less)))

-- in front of the one item that is wanted none counts
pub none-shorter : {X T : Type 0} (item : X → T) (counted : T → Bool) (needed count taken : ℕ) (block : List X) → Some needed ≡ Some 1 → (needed ≤ count → ⊥)
    → (0 < taken → count_by counted (map item (take (taken - 1) block)) < needed - count) → (n : ℕ) → n < taken → count_by counted (map item (take n block)) ≡ 0
none-shorter item counted needed count taken block is under shortest n within =
    let one : needed ≡ 1 = cc in
    let before = take (taken - 1) block in
    let none = shortest (omega (arith, within)) in
    let part : map item (take n block) ≡ take n (map item before) = ap (map item) (sym (take-take n (taken - 1) block (omega (arith, within)))) ∙ sym (take-map item n before) in
    let less = sum_by-take-le (λ x. cond (counted x) 1 0) (map item before) n in
    let same = ap (count_by counted) part in
    omega (arith, one, none, less, same)

module _ {T C A : Type 0} (f : Folding T C) (content : A → C) where
  -- what has enough takes nothing more
  pub front_full : (p : Portion A) → Reaches f.needed p.count → (xs : List T) → Offers (KeepsFront f content) p xs p
  front_full p reached xs whole (front, rest, is, folds, count, within, last, end) =
      (front, rest ++ xs, ap (λ l. l ++ xs) is ∙ append_assoc front rest xs, folds, count, within, last, inr reached)

  -- what has not enough keeps the item
  pub front_more : (p p' : Portion A) (x : T) → CountsNone f.needed f.counted → (Reaches f.needed p.count → ⊥) → f.is_value x → p'.count ≡ p.count + cond (f.counted x) 1 0 → content p'.kept ≡ f.add (content p.kept) x
      → Offers (KeepsFront f content) p (x ∷ []) p'
  front_more p p' x never under value count adds whole (front, rest, is, folds, counts, within, last, inr reached) = absurd (under reached)
  front_more p p' x never under value count adds whole (front, rest, is, folds, counts, within, last, inl none) =
      let P : ℕ → Type 0 = λ n. IsWithin f.needed n in
      let same : whole ≡ front = is ∙ ap (λ l. front ++ l) none ∙ append-nil front in
      let one : count_by f.counted (x ∷ []) ≡ cond (f.counted x) 1 0 = omega arith in
      let both = sum_by-append (λ y. cond (f.counted y) 1 0) front (x ∷ []) in (
        front ++ x ∷ [],
        [],
        ap (λ l. l ++ x ∷ []) same ∙ sym (append-nil (front ++ x ∷ [])),
        (All-push f.is_value front x folds.0 value, adds ∙ ap (λ c. f.add c x) folds.1 ∙ sym (fold-append f.add f.empty front (x ∷ []))),
        omega arith,
        subst P (sym count) (within_more f.needed f.counted x p.count never under within),
        CountsLast-append f.needed f.counted front (x ∷ []) (λ reached. let R : ℕ → Type 0 = λ n. Reaches f.needed n in under (subst R (sym counts) reached)) (CountsLast-one f.needed f.counted x),
        inl refl,
      )

  -- what has not enough keeps a front of a block: all of it, or so much that it is enough
  pub front_block : (p p' : Portion A) (xs ys zs : List T) → xs ≡ ys ++ zs → (Reaches f.needed p.count → ⊥) → All f.is_value ys → p'.count ≡ p.count + count_by f.counted ys
      → content p'.kept ≡ fold f.add (content p.kept) ys → (IsWithin f.needed p.count → IsWithin f.needed p'.count) → CountsLast f.needed f.counted ys → ((zs ≡ []) ⊎ Reaches f.needed p'.count)
      → Offers (KeepsFront f content) p xs p'
  front_block p p' xs ys zs parts under values count adds stays short ends whole (front, rest, is, folds, counts, within, last, inr reached) = absurd (under reached)
  front_block p p' xs ys zs parts under values count adds stays short ends whole (front, rest, is, folds, counts, within, last, inl none) =
      let same : whole ≡ front = is ∙ ap (λ l. front ++ l) none ∙ append-nil front in
      let both = sum_by-append (λ y. cond (f.counted y) 1 0) front ys in (
        front ++ ys,
        zs,
        ap (λ l. l ++ xs) same ∙ ap (λ l. front ++ l) parts ∙ sym (append_assoc front ys zs),
        (All-append f.is_value front ys folds.0 values, adds ∙ ap (λ c. fold f.add c ys) folds.1 ∙ sym (fold-append f.add f.empty front ys)),
        omega arith,
        stays within,
        CountsLast-append f.needed f.counted front ys (λ reached. let R : ℕ → Type 0 = λ n. Reaches f.needed n in under (subst R (sym counts) reached)) short,
        ends,
      )

  -- the same of a block's items, where so many of them are taken, of which some count
  pub front_kept : {X : Type 0} (item : X → T) (p p' : Portion A) (block front : List X) (taken counting : ℕ) (need : Option ℕ)
      → need ≡ f.needed → (Reaches f.needed p.count → ⊥) → take taken block ≡ front → All f.is_value (map item front)
      → p'.count ≡ p.count + counting → counting ≡ count_by f.counted (map item (take taken block)) → content p'.kept ≡ fold f.add (content p.kept) (map item front)
      → (IsWithin need p.count → IsWithin need (p.count + counting)) → (need ≡ Some 1 → (n : ℕ) → n < taken → count_by f.counted (map item (take n block)) ≡ 0) → ((taken ≡ length block) ⊎ Reaches need (p.count + counting))
      → Offers (KeepsFront f content) p (map item block) p'
  front_kept item p p' block front taken counting need same under is values count counted adds stays short ends =
      let left = drop taken block in
      let parts : map item block ≡ map item front ++ map item left =
      ap (map item) (sym (take-append-drop taken block)) ∙ map-append item (take taken block) left ∙ ap (λ l. map item l ++ map item left) is in
      let W : Option ℕ → Type 0 = λ n. IsWithin n p.count → IsWithin n (p.count + counting) in
      let R : Option ℕ → Type 0 = λ n. Reaches n (p.count + counting) in
      let N : ℕ → Type 0 = λ n. IsWithin f.needed n in
      let E : ℕ → Type 0 = λ n. Reaches f.needed n in
      front_block p p' (map item block) (map item front) (map item left) parts under values
      (count ∙ ap (λ n. p.count + n) (counted ∙ ap (λ l. count_by f.counted (map item l)) is)) adds
      (λ h. subst N (sym count) (subst W same stays h))
      (λ one n within. ap (count_by f.counted) (front-taken item taken block front is n within) ∙ short (same ∙ one) n (taken-within item taken block front is n within))
      (⊎_elim (λ e. inl (ap (map item) (drop_all taken block (omega (arith, e))))) (λ r. inr (subst E (sym count) (subst R same r))) ends)

  -- a new container keeps nothing of nothing
  pub front_none : (p : Portion A) → content p.kept ≡ f.empty → p.count ≡ 0 → KeepsFront f content [] p
  front_none p new nothing =
      let P : ℕ → Type 0 = λ n. IsWithin f.needed n in
      ([], [], refl, ((λ k d within. absurd (omega arith)), new), nothing, subst P (sym nothing) (within_none f.needed), CountsLast-none f.needed f.counted, inl refl)
