-- The leaves that the answer needs, as they are picked from left to right.
use Rattle.std.proofs.Common.{◌≡◌, ◌<◌, ◌+◌, ◌^◌, ◌++◌, ◌∷◌, ◌∙◌, ℕ, zero, suc, List, [], Option, Some, None, length, get_or, ap, sym, refl, subst, arith, inl, inr, add-zero, length-append}
use Rattle.std.proofs.lemmas.Bool.{cases_lt}
use Rattle.barriers.specs.Needs.{Reaches, IsBelow}
use Rattle.leaf_board.specs.Case.{sum_below}
use Rattle.leaf_reading.specs.declared.leaf_end.Portion.{Portion}
use Rattle.stealing_pool.specs.Jobs.{Work}
use Rattle.leaf_reading.specs.Fronts.{IsWithin}
use Rattle.stealing_pool.specs.Gathers.{sum_from, AreKept, AreWanted, HoldsLeaf, IsRow}
use Rattle.stealing_pool.specs.SpanLaws.{reaches-more}
use Rattle.stealing_pool.proofs.Rows.{sum_from-add}

-- the count of what stands in a place
abbrev pub portion_count : {A : Type 0} → Option (Portion A) → ℕ
portion_count None = 0
portion_count (Some p) = p.count

abbrev pub count_in : {A : Type 0} → List (Option (Portion A)) → ℕ → ℕ
count_in places i = portion_count (get_or places i None)

-- one leaf more
sum_from-one : (count : ℕ → ℕ) (k : ℕ) → sum_from count 0 (k + 1) ≡ sum_from count 0 k + count k
sum_from-one count k =
    let e = sum_from-add count 0 k 1 in
    let h : count (0 + k) ≡ count k = ap count (omega arith) in
    omega arith

-- one more is kept behind the others
pub kept-push : {A : Type 0} (work : Work A) (count : ℕ → ℕ) (first : ℕ) (row : List A) (kept : A) → AreKept work count first row → work.Keeps (first + length row) (first + length row + 1) (count (first + length row)) kept
    → AreKept work count first (row ++ kept ∷ [])
kept-push work count first [] kept each here =
    let P : ℕ → Type 0 = λ i. work.Keeps i (i + 1) (count i) kept in
    (subst P (add-zero first) here, tt)
kept-push work count first (k ∷ row) kept each here =
    let P : ℕ → Type 0 = λ i. work.Keeps i (i + 1) (count i) kept in
    (each.0, kept-push work count (first + 1) row kept each.1 (subst P (omega arith) here))

-- what was picked so far, which is not enough
pub record IsPicked {A : Type 0} (work : Work A) (count : ℕ → ℕ) (row : List A) (total : ℕ) : Type 0 where
  pub each : AreKept work count 0 row
  pub wanted : AreWanted work.needed count 0 (length row + 1)
  pub whole : (i : ℕ) → i < length row → count i ≡ work.full i
  pub total_is : total ≡ sum_from count 0 (length row)
  pub small : total < 2 ^ 63

pub picked_none : {A : Type 0} (work : Work A) (count : ℕ → ℕ) (row : List A) → row ≡ [] → IsPicked work count row 0
picked_none work count row none =
    let P : List _ → Type 0 = λ l. IsPicked work count l 0 in
    subst P (sym none) (record { each = tt; wanted = λ j some below reached. absurd (omega arith); whole = λ i below. absurd (omega arith); total_is = refl; small = omega arith })

-- a count within the need, added to one that is small
pub fits_more : (needed : Option ℕ) (total n : ℕ) → IsBelow needed (2 ^ 63) → IsWithin needed n → total < 2 ^ 63 → total + n < 2 ^ 64
fits_more None total n below within small = omega arith
fits_more (Some r) total n below within small = omega arith

small_more : (needed : Option ℕ) (total n : ℕ) → IsBelow needed (2 ^ 63) → IsWithin needed n → total < 2 ^ 63 → (Reaches needed (total + n) → ⊥) → total + n < 2 ^ 63
small_more None total n below within small under = omega arith
small_more (Some r) total n below within small under = omega arith

module _ {A : Type 0} (work : Work A) (count : ℕ → ℕ) (row row' : List A) (total : ℕ) (p : Portion A) (k : ℕ) (at : length row ≡ k) (is : count k ≡ p.count) (held : HoldsLeaf work k (Some p)) (picked : IsPicked work count row total) (more : row' ≡ row ++ p.kept ∷ []) where
  each_more : AreKept work count 0 row'
  each_more =
      let P : ℕ → Type 0 = λ i. work.Keeps i (i + 1) (count i) p.kept in
      let N : ℕ → Type 0 = λ n. work.Keeps k (k + 1) n p.kept in
      let L : List A → Type 0 = λ l. AreKept work count 0 l in
      subst L (sym more) (kept-push work count 0 row p.kept picked.each (subst P (omega arith) (subst N (sym is) held.0)))

  longer : length row' ≡ k + 1
  longer = let e = ap length more ∙ length-append row (p.kept ∷ []) in omega arith

  total_more : total + p.count ≡ sum_from count 0 (k + 1)
  total_more =
      let one = sum_from-one count k in
      let S : sum_from count 0 (length row) ≡ sum_from count 0 k = ap (sum_from count 0) at in
      let t = picked.total_is in
      omega arith

  -- one more was picked, and it is not enough
  pub picked_more : IsBelow work.needed (2 ^ 63) → (Reaches work.needed (total + p.count) → ⊥) → IsPicked work count row' (total + p.count)
  picked_more below under =
      record {
        each = each_more;
        wanted = λ j some within reached.
            elim (cases_lt j (length row + 1)) [
              | inl before ↦ picked.wanted j some before reached
              | inr last ↦ (let here : j ≡ k + 1 = (let l = longer in omega arith) in under (subst (Reaches work.needed) (ap (sum_from count 0) here ∙ sym total_more) reached))
            ];
        whole = λ i within.
            elim (cases_lt i k) [
              | inl before ↦ picked.whole i (omega arith)
              | inr last ↦
                  (let here : i ≡ k = (let l = longer in omega arith) in
                  elim held.1.1 [
                    | inl full ↦ ap count here ∙ (is ∙ (full ∙ ap work.full (sym here)))
                    | inr reached ↦ absurd (under (reaches-more work.needed p.count (total + p.count) (omega arith) reached))
                  ])
            ];
        total_is = total_more ∙ ap (sum_from count 0) (sym longer);
        small = small_more work.needed total p.count below held.2 picked.small under;
      }

  -- one more was picked, and it is enough
  pub picked_enough : k < work.leaves → Reaches work.needed (total + p.count) → IsRow work row'
  picked_enough within reached =
      record {
        count = count;
        each = each_more;
        some = let l = longer in omega arith;
        few = let l = longer in omega arith;
        wanted = λ j some below. picked.wanted j some (let l = longer in omega arith);
        end = inr (subst (Reaches work.needed) (total_more ∙ ap (sum_from count 0) (sym longer)) reached);
      }

-- all were picked
pub picked_all : {A : Type 0} (work : Work A) (count : ℕ → ℕ) (row : List A) (total : ℕ) → IsPicked work count row total → 0 < work.leaves → length row ≡ work.leaves → IsRow work row
picked_all work count row total picked some all =
    record { count = count; each = picked.each; some = omega arith; few = omega arith; wanted = λ j some below. picked.wanted j some (omega arith); end = inl all }

-- while not enough is picked, no place is empty
whole_sum : (count full : ℕ → ℕ) (m : ℕ) → ((i : ℕ) → i < m → count i ≡ full i) → sum_from count 0 m ≡ sum_below full m
whole_sum count full zero same = refl
whole_sum count full (suc m) same =
    let before = whole_sum count full m (λ i below. same i (omega arith)) in
    let here = same m (omega arith) in
    let one = sum_from-one count m in
    let next : suc m ≡ m + 1 = omega arith in
    let shape : sum_from count 0 (suc m) ≡ sum_from count 0 (m + 1) = ap (sum_from count 0) next in
    omega arith

pub picked_filled : {A : Type 0} (work : Work A) (count : ℕ → ℕ) (row : List A) (total c : ℕ) → IsPicked work count row total → c < length row → Reaches work.needed (sum_below work.full (c + 1)) → ⊥
picked_filled work count row total c picked within reached =
    let same = whole_sum count work.full (c + 1) (λ i below. picked.whole i (omega arith)) in
    picked.wanted (c + 1) (omega arith) (omega arith) (subst (Reaches work.needed) (sym same) reached)
