-- Steps of loops over a block.
use Rattle.std.specs.Prelude.{◌≡◌, ℕ, zero, suc, ◌+◌, ◌<◌, ◌≤◌, ℤ, pos, Bool, true, false, cond, List, [], ◌∷◌, ◌++◌, length, take, drop, filter, flat_map, refl}
use Rattle.std.proofs.Common.{sym, ap, ◌∙◌, arith, get_or, append-nil}
use Rattle.std.proofs.Math.ListN.{set}
use Rattle.std.proofs.Math.Seq.{drop-cons, take-append_seam}
use Rattle.std.proofs.lemmas.List.{take_more_set, take-set, drop-set-lt}
use Rattle.std.proofs.lemmas.List.Elements.{filter_more}
use Rattle.std.proofs.lemmas.List.Sums.{length-filter, count_by-le-length}
use Rattle.std.specs.List.{count_by}
use Rattle.stream_functions.specs.Lists.{filter-flat_map}

module _ (p : ℤ → Bool) (xs ys : List ℤ) (i kept more : ℕ) (x : ℤ) (within : i < length xs) (long : length ys ≡ length xs) (below : kept ≤ i)
    (front : take kept ys ≡ filter p (take i xs)) (back : drop i ys ≡ drop i xs) (is : x ≡ get_or ys i (pos 0)) (one : p x ≡ true → more ≡ 1) (none : p x ≡ false → more ≡ 0) where
  cons : get_or ys i (pos 0) ∷ drop (suc i) ys ≡ get_or xs i (pos 0) ∷ drop (suc i) xs
  cons = sym (drop-cons ys i (pos 0) (omega (arith, within, long))) ∙ back ∙ drop-cons xs i (pos 0) within

  same : x ≡ get_or xs i (pos 0)
  same = is ∙ ap (λ l. get_or l 0 (pos 0)) cons

  next : i + 1 ≡ suc i
  next = omega arith

  kept_take : (b : Bool) → (b ≡ true → more ≡ 1) → (b ≡ false → more ≡ 0) → take (kept + more) (set ys kept x) ≡ take kept ys ++ cond b (x ∷ []) []
  kept_take true h k = let e : kept + more ≡ kept + 1 = omega (arith, h refl) in ap (λ n. take n (set ys kept x)) e ∙ take_more_set ys kept x (omega (arith, below, within, long))
  kept_take false h k = let e : kept + more ≡ kept = omega (arith, k refl) in ap (λ n. take n (set ys kept x)) e ∙ take-set ys kept x ∙ sym (append-nil (take kept ys))

  few : (b : Bool) → (b ≡ true → more ≡ 1) → (b ≡ false → more ≡ 0) → kept + more ≤ i + 1
  few true h k = omega (arith, h refl, below)
  few false h k = omega (arith, k refl, below)

  pub keep_step : (kept + more ≤ i + 1) × (take (kept + more) (set ys kept x) ≡ filter p (take (i + 1) xs)) × (drop (i + 1) (set ys kept x) ≡ drop (i + 1) xs)
  keep_step = (
    few (p x) one none,
    kept_take (p x) one none ∙ ap (λ l. l ++ cond (p x) (x ∷ []) []) front ∙ ap (λ z. filter p (take i xs) ++ cond (p z) (z ∷ []) []) same ∙ sym (filter_more p xs i (pos 0) within),
    drop-set-lt (i + 1) ys kept x (omega (arith, below)) ∙ ap (λ n. drop n ys) next ∙ ap (drop 1) cons ∙ sym (ap (λ n. drop n xs) next),
  )

-- what a slice of a list's items was written to
pub written_over : (len : ℕ) (new old : List ℤ) → length new ≡ len → take len (new ++ old) ≡ new
written_over len new old is = ap (λ n. take n (new ++ old)) (sym is) ∙ take-append_seam new old

pub get_or_any : (l : List ℤ) (i : ℕ) (d e : ℤ) → i < length l → get_or l i d ≡ get_or l i e
get_or_any [] i d e h = absurd (omega arith)
get_or_any (x ∷ l) zero d e h = refl
get_or_any (x ∷ l) (suc i) d e h = get_or_any l i d e (omega arith)

-- what a test leaves of a list, where it is all of it, or nothing
module _ (p : ℤ → Bool) where
  abbrev kept : List ℤ → List ℤ
  kept l = flat_map (λ x. cond (p x) (x ∷ []) []) l

  counted : (l : List ℤ) → length (kept l) ≡ count_by p l
  counted l = ap length (sym (filter-flat_map p l)) ∙ length-filter p l

  stays : (b : Bool) (x : ℤ) (l : List ℤ) → (length (kept l) ≡ length l → kept l ≡ l) → length (cond b (x ∷ []) [] ++ kept l) ≡ suc (length l)
      → cond b (x ∷ []) [] ++ kept l ≡ x ∷ l
  stays true x l again e = ap (λ r. x ∷ r) (again (omega (arith, e)))
  stays false x l again e = absurd (omega (arith, e, counted l, count_by-le-length p l))

  all_kept : (l : List ℤ) → length (kept l) ≡ length l → kept l ≡ l
  all_kept [] e = refl
  all_kept (x ∷ l) e = stays (p x) x l (all_kept l) e

  pub kept-all : (l : List ℤ) → length l ≤ count_by p l → kept l ≡ l
  kept-all l h = all_kept l (omega (arith, h, counted l, count_by-le-length p l))

  none : (l : List ℤ) → length l ≡ 0 → l ≡ []
  none [] e = refl
  none (x ∷ l) e = absurd (omega (arith, e))

  pub kept-none : (l : List ℤ) → count_by p l ≡ 0 → kept l ≡ []
  kept-none l h = none (kept l) (counted l ∙ h)
