-- What barriers make of two lists, one behind the other, and what they need behind the first.
use Rattle.std.proofs.Common.{◌≡◌, ◌+◌, ◌-◌, ◌<◌, ◌==◌, ℕ, zero, suc, min, not, Bool, true, false, cond, Some, List, [], ◌∷◌, ◌++◌, take, drop, take_while, length, count_by, ap, ◌∙◌, sym, arith, refl, append-nil}
use Rattle.std.specs.List.{prefix_len}
use Rattle.std.proofs.lemmas.List.{length-take}
use Rattle.std.proofs.lemmas.List.Sums.{take_while-cons}
use Rattle.std.proofs.lemmas.Bool.{eqb-true, eqb-false}
use Rattle.barriers.specs.Needs.{IsToldBy, every_item, less_needed}
use Rattle.barriers.specs.NeedLaws.{KeepsEnough-take_while, take_while-not, before-last, count-cons, count-every_item}
use Rattle.barriers.specs.Whiles.{drop_while, taken_while, left_while}

take-both : {X : Type 0} (n : ℕ) (l r : List X) → take n (l ++ r) ≡ take n l ++ take (n - length l) r
take-both zero [] r = refl
take-both (suc n) [] r = let same : suc n ≡ suc n - 0 = omega arith in ap (λ k. take k r) same
take-both zero (x ∷ l) r = let none : 0 ≡ 0 - suc (length l) = omega arith in ap (λ k. take k r) none
take-both (suc n) (x ∷ l) r = ap (λ t. x ∷ t) (take-both n l r ∙ ap (λ k. take n l ++ take k r) (omega arith))

drop-both : {X : Type 0} (n : ℕ) (l r : List X) → drop n (l ++ r) ≡ drop n l ++ drop (n - length l) r
drop-both zero [] r = refl
drop-both (suc n) [] r = let same : suc n ≡ suc n - 0 = omega arith in ap (λ k. drop k r) same
drop-both zero (x ∷ l) r = let none : 0 ≡ 0 - suc (length l) = omega arith in ap (λ k. (x ∷ l) ++ drop k r) none
drop-both (suc n) (x ∷ l) r = drop-both n l r ∙ ap (λ k. drop n l ++ drop k r) (omega arith)

pub limit-goes_on : {X : Type 0} (most left : ℕ) (items kept more : List X) → kept ≡ take most items → left ≡ most - length kept
    → take most (items ++ more) ≡ kept ++ take left more
limit-goes_on most left items kept more is lessened =
    let taken : length kept ≡ min most (length items) = ap length is ∙ length-take most items in
    let same : most - length items ≡ left = omega (arith, taken, lessened) in
    take-both most items more ∙ ap (λ k. take most items ++ take k more) same ∙ ap (λ t. t ++ take left more) (sym is)

pub limit-lessened : {X : Type 0} (most left : ℕ) (items kept : List X) → kept ≡ take most items → left ≡ most - length kept
    → Some left ≡ less_needed (Some most) (count_by every_item items)
limit-lessened most left items kept is lessened =
    let taken : length kept ≡ min most (length items) = ap length is ∙ length-take most items in
    ap Some (omega (arith, taken, lessened, count-every_item items))

pub skip-goes_on : {X : Type 0} (number left : ℕ) (items kept more : List X) → kept ≡ drop number items → left ≡ number - length items
    → drop number (items ++ more) ≡ kept ++ drop left more
skip-goes_on number left items kept more is lessened =
    drop-both number items more ∙ ap (λ k. drop number items ++ drop k more) (sym lessened) ∙ ap (λ t. t ++ drop left more) (sym is)

module _ {X : Type 0} (p : X → Bool) where
  -- where no item fails the test, all are taken, and what follows them is asked
  taken-all : (items more : List X) → count_by (λ x. not (p x)) items ≡ 0 → take_while p (items ++ more) ≡ items ++ take_while p more
  taken-all [] more none = refl
  taken-all (x ∷ items) more none =
      take_while-cons p x (items ++ more) ∙ head (p x) (taken-all items more) (sym (count-cons (λ y. not (p y)) x items) ∙ none)
    where
      head : (b : Bool) → (count_by (λ y. not (p y)) items ≡ 0 → take_while p (items ++ more) ≡ items ++ take_while p more)
          → cond (not b) 1 0 + count_by (λ y. not (p y)) items ≡ 0 → cond b (x ∷ take_while p (items ++ more)) [] ≡ x ∷ (items ++ take_while p more)
      head true later rest = ap (λ m. x ∷ m) (later (omega (arith, rest)))
      head false later some = absurd (omega (arith, some))

  -- where the last item alone fails it, the others are taken, and no more
  all-but_last : (is_cut : Bool) (items more : List X) → is_cut ≡ true → IsToldBy (Some 1) (λ x. not (p x)) items is_cut
      → take_while p (items ++ more) ≡ take (length items - 1) items
  all-but_last is_cut [] more cut told = let one = told.some cut refl in absurd (omega (arith, one))
  all-but_last is_cut (x ∷ items) more cut told =
      let one = told.some cut refl in
      let place : length items ≡ length (x ∷ items) - 1 = omega arith in
      KeepsEnough-take_while p (x ∷ items) more one
      ∙ take_while-not p (x ∷ items)
      ∙ before-last (λ y. not (p y)) (length items) (x ∷ items) (omega arith) one (told.last refl (length items) (omega arith))
      ∙ ap (λ n. take n (x ∷ items)) place

  pub taken-closed : (is_open : Bool) (items kept more : List X) → is_open ≡ false → kept ≡ [] → taken_while is_open p (items ++ more) ≡ kept ++ taken_while is_open p more
  taken-closed true items kept more closed none = absurd cc
  taken-closed false items kept more closed none = ap (λ l. l ++ []) (sym none)

  pub taken-cut : (is_open is_cut : Bool) (items kept more : List X) → is_open ≡ true → is_cut ≡ true → IsToldBy (Some (cond is_open 1 0)) (λ x. not (p x)) items is_cut
      → kept ≡ take (length items - 1) items → taken_while is_open p (items ++ more) ≡ kept ++ taken_while false p more
  taken-cut true is_cut items kept more opened cut told is = all-but_last is_cut items more cut told ∙ sym is ∙ sym (append-nil kept)
  taken-cut false is_cut items kept more opened cut told is = absurd cc

  pub taken-open : (is_open is_cut : Bool) (items kept more : List X) → is_open ≡ true → is_cut ≡ false → IsToldBy (Some (cond is_open 1 0)) (λ x. not (p x)) items is_cut
      → kept ≡ items → taken_while is_open p (items ++ more) ≡ kept ++ taken_while is_open p more
  taken-open true is_cut items kept more opened uncut told is = taken-all items more (told.none uncut refl) ∙ ap (λ l. l ++ take_while p more) (sym is)
  taken-open false is_cut items kept more opened uncut told is = absurd cc

  one-more : (n : ℕ) (x : X) (l : List X) → drop (1 + n) (x ∷ l) ≡ drop n l
  one-more n x l = let place : 1 + n ≡ suc n = omega arith in ap (λ k. drop k (x ∷ l)) place

  -- where nothing is left, what follows is asked
  dropped-all : (items more : List X) → length (drop_while p items) ≡ 0 → drop_while p (items ++ more) ≡ drop_while p more
  dropped-all [] more none = refl
  dropped-all (x ∷ items) more none = head (p x) (dropped-all items more) none
    where
      head : (b : Bool) → (length (drop_while p items) ≡ 0 → drop_while p (items ++ more) ≡ drop_while p more)
          → length (drop (cond b (1 + prefix_len p items) 0) (x ∷ items)) ≡ 0
          → drop (cond b (1 + prefix_len p (items ++ more)) 0) (x ∷ (items ++ more)) ≡ drop_while p more
      head true later rest = one-more (prefix_len p (items ++ more)) x (items ++ more) ∙ later (ap length (sym (one-more (prefix_len p items) x items)) ∙ rest)
      head false later some = absurd (omega (arith, some))

  -- where an item is left, all that follows is left
  dropped-front : (items more : List X) → 0 < length (drop_while p items) → drop_while p (items ++ more) ≡ drop_while p items ++ more
  dropped-front [] more some = absurd (omega (arith, some))
  dropped-front (x ∷ items) more some = head (p x) (dropped-front items more) some
    where
      head : (b : Bool) → (0 < length (drop_while p items) → drop_while p (items ++ more) ≡ drop_while p items ++ more)
          → 0 < length (drop (cond b (1 + prefix_len p items) 0) (x ∷ items))
          → drop (cond b (1 + prefix_len p (items ++ more)) 0) (x ∷ (items ++ more)) ≡ drop (cond b (1 + prefix_len p items) 0) (x ∷ items) ++ more
      head true later rest =
          let same : length (drop (1 + prefix_len p items) (x ∷ items)) ≡ length (drop_while p items) = ap length (one-more (prefix_len p items) x items) in
          one-more (prefix_len p (items ++ more)) x (items ++ more) ∙ later (omega (arith, rest, same)) ∙ ap (λ l. l ++ more) (sym (one-more (prefix_len p items) x items))
      head false later rest = refl

  pub left-dropping : (is_dropping : Bool) (items kept more : List X) (n : ℕ) → is_dropping ≡ true → kept ≡ drop_while p items → n ≡ length kept
      → left_while is_dropping p (items ++ more) ≡ kept ++ left_while (n == 0) p more
  left-dropping false items kept more n dropping is counts = absurd cc
  left-dropping true items kept more n dropping is counts = by (n == 0) refl
    where
      left : length kept ≡ length (drop_while p items)
      left = ap length is

      nothing : (l : List X) → length l ≡ 0 → l ≡ []
      nothing [] none = refl
      nothing (x ∷ l) none = absurd (omega (arith, none))

      by : (b : Bool) → (n == 0) ≡ b → drop_while p (items ++ more) ≡ kept ++ left_while b p more
      by true same =
          let none : length kept ≡ 0 = let e = eqb-true n 0 same in omega (arith, e, counts) in
          dropped-all items more (omega (arith, left, none)) ∙ ap (λ l. l ++ drop_while p more) (sym (nothing kept none))
      by false apart =
          let some : 0 < length kept = let e = eqb-false n 0 apart in omega (arith, e, counts) in
          dropped-front items more (omega (arith, left, some)) ∙ ap (λ l. l ++ more) (sym is)

-- a closed while needs nothing, and an open one an item that fails the test, until one came
pub needs-closed : (is_open : Bool) (came : ℕ) → is_open ≡ false → Some (cond is_open 1 0) ≡ less_needed (Some (cond is_open 1 0)) came
needs-closed true came closed = absurd cc
needs-closed false came closed = ap Some (omega arith)

module _ {X : Type 0} (counted : X → Bool) (is_open is_cut : Bool) (items : List X) (opened : is_open ≡ true) (told : IsToldBy (Some (cond is_open 1 0)) counted items is_cut) where
  one : Some (cond {A = ℕ} is_open 1 0) ≡ Some 1
  one = ap (λ b. Some (cond b 1 0)) opened

  pub needs-cut : is_cut ≡ true → Some (cond false 1 0) ≡ less_needed (Some (cond is_open 1 0)) (count_by counted items)
  needs-cut cut =
      let some = told.some cut one in
      ap Some (omega (arith, some)) ∙ ap (λ n. less_needed n (count_by counted items)) (sym one)

  pub needs-open : is_cut ≡ false → Some (cond is_open 1 0) ≡ less_needed (Some (cond is_open 1 0)) (count_by counted items)
  needs-open uncut =
      let none = told.none uncut one in
      one ∙ ap Some (omega (arith, none)) ∙ ap (λ n. less_needed n (count_by counted items)) (sym one)
