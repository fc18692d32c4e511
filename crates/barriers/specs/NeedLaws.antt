-- What enough of a list gives.
use Rattle.std.specs.Prelude.{◌≡◌, ◌<◌, ◌≤◌, ◌+◌, ◌-◌, ℕ, zero, suc, Bool, true, false, not, cond, fold, count_by, List, [], ◌∷◌, ◌++◌, take, take_while, length, Option, Some, None, refl}
use Rattle.std.proofs.Common.{ap, ◌∙◌, sym, subst, arith, append-nil, ⊎_elim}
use Rattle.std.proofs.lemmas.List.{take-append-le, length-append}
use Rattle.std.proofs.lemmas.Bool.{cases_lt}
use Rattle.std.proofs.Math.Seq.{take-append-add}
use Rattle.std.proofs.lemmas.List.Sums.{take_while-cons, sum_by-append, sum_by-take-le}
use Rattle.barriers.specs.Needs.{IsEnough, KeepsEnough, IsOutcome, StaysEnough, CountsLast, Reaches, every_item}

sum_from : {T : Type 0} (n : ℕ) (l : List T) → fold (λ a x. a + cond (every_item {T = T} x) 1 0) n l ≡ n + length l
sum_from n [] = omega arith
sum_from n (x ∷ l) = let e = sum_from (n + 1) l in e ∙ omega arith

pub count-every_item : {T : Type 0} (l : List T) → count_by every_item l ≡ length l
count-every_item l = sum_from 0 l ∙ omega arith

pub KeepsEnough-take : {T : Type 0} (n : ℕ) → KeepsEnough {T = T} (Some n) every_item (take n)
KeepsEnough-take n front more h = take-append-le n front more (let e = count-every_item front in omega arith)

-- no item counts for less than nothing
pub StaysEnough-always : {T : Type 0} (needed : Option ℕ) (counted : T → Bool) → StaysEnough needed counted
StaysEnough-always {T} None counted before part behind enough = absurd enough
StaysEnough-always {T} (Some r) counted before part behind enough =
    let counts : List T → ℕ = λ xs. count_by counted xs in
    let all : counts (before ++ part ++ behind) ≡ counts (before ++ part) + counts behind = sum_by-append (λ x. cond (counted x) 1 0) (before ++ part) behind in
    let front : counts (before ++ part) ≡ counts before + counts part = sum_by-append (λ x. cond (counted x) 1 0) before part in
    omega (arith, all, front, enough)

-- where nothing is ever enough, there is nothing to show
pub KeepsEnough-never : {T A : Type 0} (counted : T → Bool) (value : List T → A) → KeepsEnough None counted value
KeepsEnough-never counted value front more enough = absurd enough

-- where nothing is needed, no item makes a difference
pub nothing-needed : {T A : Type 0} (needed : Option ℕ) (counted : T → Bool) (value : List T → A) → KeepsEnough needed counted value
    → needed ≡ Some 0 → (more : List T) → value more ≡ value []
nothing-needed {T} needed counted value law is more =
    let none : List T = [] in
    let Q : Option ℕ → Type 0 = λ n. IsEnough n counted none in
    law none more (subst Q (sym is) (omega arith))

count-from : {T : Type 0} (p : T → Bool) (n : ℕ) (l : List T) → fold (λ a x. a + cond (p x) 1 0) n l ≡ n + count_by p l
count-from p n [] = omega arith
count-from p n (x ∷ l) = let e = count-from p (n + cond (p x) 1 0) l in let f = count-from p (0 + cond (p x) 1 0) l in e ∙ omega arith

-- a front that has a member that fails the test has all that `take_while` takes
pub KeepsEnough-take_while : {T : Type 0} (p : T → Bool) → KeepsEnough (Some 1) (λ x. not (p x)) (take_while p)
KeepsEnough-take_while p [] more enough = absurd (omega arith)
KeepsEnough-take_while p (x ∷ front) more enough =
    take_while-cons p x (front ++ more) ∙ head (p x) (λ e. KeepsEnough-take_while p front more (rest e)) ∙ sym (take_while-cons p x front)
  where
    head : (b : Bool) → (b ≡ true → take_while p (front ++ more) ≡ take_while p front) → cond b (x ∷ take_while p (front ++ more)) [] ≡ cond b (x ∷ take_while p front) []
    head true same = ap (λ l. x ∷ l) (same refl)
    head false same = refl

    rest : p x ≡ true → 1 ≤ count_by (λ x. not (p x)) front
    rest e = let counted : count_by (λ x. not (p x)) (x ∷ front) ≡ (0 + cond (not (p x)) 1 0) + count_by (λ x. not (p x)) front = count-from (λ x. not (p x)) (0 + cond (not (p x)) 1 0) front in
        let none : cond {A = ℕ} (not (p x)) 1 0 ≡ 0 = ap (λ b. cond (not b) 1 0) e in
        omega arith

-- the value of a front that is all of the list or enough is the value of the list
pub value-front : {T A : Type 0} (needed : Option ℕ) (counted : T → Bool) (value : List T → A) → KeepsEnough needed counted value
    → (whole front : List T) → IsOutcome needed counted whole front → value whole ≡ value front
value-front needed counted value law whole front (rest, joins, outcome) =
    ⊎_elim
    (λ none. ap value (joins ∙ ap (λ r. front ++ r) none ∙ append-nil front))
    (λ enough. ap value joins ∙ law front rest enough)
    outcome

-- with nothing ever enough, the front is all of the list
pub whole-front : {T : Type 0} (counted : T → Bool) (whole front : List T) → IsOutcome None counted whole front → whole ≡ front
whole-front counted whole front (rest, joins, outcome) =
    ⊎_elim (λ none. joins ∙ ap (λ r. front ++ r) none ∙ append-nil front) (λ enough. absurd enough) outcome

-- the longest front that meets a test is what stands before the first item that fails it
pub take_while-not : {T : Type 0} (p : T → Bool) (l : List T) → take_while p l ≡ take_while (λ x. not (not (p x))) l
take_while-not p [] = refl
take_while-not p (x ∷ l) = take_while-cons p x l ∙ head (p x) (take_while-not p l) ∙ sym (take_while-cons (λ y. not (not (p y))) x l)
  where
    head : (b : Bool) → take_while p l ≡ take_while (λ x. not (not (p x))) l → cond b (x ∷ take_while p l) [] ≡ cond (not (not b)) (x ∷ take_while (λ y. not (not (p y))) l) []
    head true same = ap (λ m. x ∷ m) same
    head false same = refl

pub count-cons : {T : Type 0} (p : T → Bool) (x : T) (l : List T) → count_by p (x ∷ l) ≡ cond (p x) 1 0 + count_by p l
count-cons p x l = count-from p (0 + cond (p x) 1 0) l ∙ omega arith

-- where no item counts, all stand before the first that does
pub before-none : {T : Type 0} (counted : T → Bool) (l : List T) → count_by counted l ≡ 0 → take_while (λ x. not (counted x)) l ≡ l
before-none counted [] none = refl
before-none counted (x ∷ l) none =
    take_while-cons (λ y. not (counted y)) x l ∙ head (counted x) (before-none counted l) (sym (count-cons counted x l) ∙ none)
  where
    head : (b : Bool) → (count_by counted l ≡ 0 → take_while (λ y. not (counted y)) l ≡ l) → cond b 1 0 + count_by counted l ≡ 0
        → cond (not b) (x ∷ take_while (λ y. not (counted y)) l) [] ≡ x ∷ l
    head true later some = absurd (omega (arith, some))
    head false later rest = ap (λ m. x ∷ m) (later (omega (arith, rest)))

-- where the last item alone counts, the others stand before it
pub before-last : {T : Type 0} (counted : T → Bool) (n : ℕ) (l : List T) → length l ≡ n + 1 → 1 ≤ count_by counted l → count_by counted (take n l) ≡ 0
    → take_while (λ x. not (counted x)) l ≡ take n l
before-last counted n [] long some none = absurd (omega (arith, long))
before-last counted zero (x ∷ y ∷ l) long some none = absurd (omega (arith, long))
before-last counted zero (x ∷ []) long some none =
    take_while-cons (λ y. not (counted y)) x [] ∙ head (counted x) (omega (arith, some, count-cons counted x []))
  where
    head : (b : Bool) → 1 ≤ cond {A = ℕ} b 1 0 → cond (not b) (x ∷ []) [] ≡ []
    head true one = refl
    head false one = absurd (omega (arith, one))
before-last counted (suc n) (x ∷ l) long some none =
    take_while-cons (λ z. not (counted z)) x l
    ∙ head (counted x) (before-last counted n l (omega (arith, long))) (omega (arith, some, count-cons counted x l)) (sym (count-cons counted x (take n l)) ∙ none)
  where
    head : (b : Bool) → (1 ≤ count_by counted l → count_by counted (take n l) ≡ 0 → take_while (λ z. not (counted z)) l ≡ take n l)
        → 1 ≤ cond b 1 0 + count_by counted l → cond b 1 0 + count_by counted (take n l) ≡ 0
        → cond (not b) (x ∷ take_while (λ z. not (counted z)) l) [] ≡ x ∷ take n l
    head true later one others = absurd (omega (arith, others))
    head false later one others = ap (λ m. x ∷ m) (later (omega (arith, one)) (omega (arith, others)))

-- what is taken of a list in which nothing counts, and of what follows it, counts nothing either
none-taken : {T : Type 0} (counted : T → Bool) (l r : List T) (n : ℕ) → count_by counted l ≡ 0 → ((m : ℕ) → m < length r → count_by counted (take m r) ≡ 0) → n < length l + length r
    → count_by counted (take n (l ++ r)) ≡ 0
none-taken counted l r n none of_right within =
    ⊎_elim
    (λ past.
    let m = n - length l in
    let parts = sum_by-append (λ x. cond (counted x) 1 0) l (take m r) in
    let rest = of_right m (omega (arith, past, within)) in
    let place : n ≡ length l + m = omega (arith, past) in
    ap (λ k. count_by counted (take k (l ++ r))) place ∙ ap (count_by counted) (take-append-add l r m) ∙ omega (arith, parts, none, rest))
    (λ inside.
    let less = sum_by-take-le (λ x. cond (counted x) 1 0) l n in
    ap (count_by counted) (take-append-le n l r inside) ∙ omega (arith, less, none))
    (cases_lt (length l) n)

-- behind items that are not enough, a list in which the last counts alone is such a list
pub CountsLast-append : {T : Type 0} (needed : Option ℕ) (counted : T → Bool) (l r : List T) → (Reaches needed (count_by counted l) → ⊥) → CountsLast needed counted r → CountsLast needed counted (l ++ r)
CountsLast-append None counted l r under of_right one n within = absurd cc
CountsLast-append (Some k) counted l r under of_right one n within =
    let is : k ≡ 1 = cc in
    let none : count_by counted l ≡ 0 = none-below (count_by counted l) k is under in
    none-taken counted l r n none (of_right one) (omega (arith, within, length-append l r))
  where
    none-below : (m k : ℕ) → k ≡ 1 → (k ≤ m → ⊥) → m ≡ 0
    none-below m k is few = omega (arith, is, few)

pub CountsLast-none : {T : Type 0} (needed : Option ℕ) (counted : T → Bool) → CountsLast {T = T} needed counted []
CountsLast-none needed counted one n within = absurd (omega (arith, within))

pub CountsLast-one : {T : Type 0} (needed : Option ℕ) (counted : T → Bool) (x : T) → CountsLast needed counted (x ∷ [])
CountsLast-one needed counted x one n within =
    let first : n ≡ 0 = omega (arith, within) in
    ap (λ m. count_by counted (take m (x ∷ []))) first
