-- Seats that make turns, with a pass at most in each hand.
use Rattle.std.proofs.Common.{◌≡◌, ℕ, zero, suc, ◌+◌, ◌<◌, ◌≤◌, List, [], ◌∷◌, ◌++◌, length, set, get_or, refl, sym, ap, ◌∙◌, subst, arith, length-set, Option, None}
use mathlib.Core.Logic.{dite}
use native.Mathlib.Decide.{ℕ_discrete}
use Rattle.std.proofs.lemmas.List.{get_or-set_same, get_or-set_other}
use Rattle.atomic_table.specs.Seated.{TableId}
use Rattle.leaf_board.specs.Statuses.{AreSeats}
use Rattle.leaf_board.specs.Seats.{Holder, SameSeat}
use Rattle.leaf_board.specs.Hands.{IsOn, number_of}
use Rattle.leaf_board.specs.Boards.{Holds, AllHold}

-- one of the seats made steps
pub seats_set : (board : TableId) (count : ℕ) (seats : List Holder) (w : ℕ) (before after : Holder) → AreSeats (IsOn board) number_of count seats → w < length seats → before ≡ get_or seats w before → SameSeat before after → AreSeats (IsOn board) number_of count (set seats w after)
seats_set board count seats w before after are within at same = record {
  all = length-set seats w after ∙ are.all;
  each = λ k d below.
      let old : k < length seats = subst (λ n. k < n) (length-set seats w after) below in
      dite (ℕ_discrete k w)
      (λ e.
      let mine = are.each w before within in
      let is : get_or (set seats w after) k d ≡ after = ap (λ n. get_or (set seats w after) n d) e ∙ get_or-set_same seats w after d within in (
        ap (λ (h : Holder). h.board) is ∙ same.0 ∙ ap (λ (h : Holder). h.board) at ∙ mine.0,
        ap (λ (h : Holder). h.number) is ∙ same.1 ∙ ap (λ (h : Holder). h.number) at ∙ mine.1 ∙ sym e,
      ))
      (λ ne.
      let is : get_or (set seats w after) k d ≡ get_or seats k d = get_or-set_other seats w k after d ne in
      let old_each = are.each k d old in (ap (λ (h : Holder). h.board) is ∙ old_each.0, ap (λ (h : Holder). h.number) is ∙ old_each.1));
}

pub hold_none : (n : ℕ) (seats : List Holder) (hands : List (Option ℕ)) → length hands ≤ length seats → ((w : ℕ) → get_or hands w None ≡ None) → AllHold n seats hands
hold_none n seats hands few none = (few, λ w d _. subst (Holds n (get_or seats w d)) (sym (none w)) tt)

pub hold_set : (n : ℕ) (seats : List Holder) (hands : List (Option ℕ)) (w : ℕ) (s : Holder) (h : Option ℕ) → AllHold n seats hands → w < length hands → Holds n s h → AllHold n (set seats w s) (set hands w h)
hold_set n seats hands w s h all within now = (
  (let a = length-set seats w s in let b = length-set hands w h in let few = all.0 in omega arith),
  λ k d below.
      dite (ℕ_discrete k w)
      (λ e.
      let at_seat : get_or (set seats w s) k d ≡ s = ap (λ i. get_or (set seats w s) i d) e ∙ get_or-set_same seats w s d (let few = all.0 in omega arith) in
      let at_hand : get_or (set hands w h) k None ≡ h = ap (λ i. get_or (set hands w h) i None) e ∙ get_or-set_same hands w h None within in
      subst (λ (x : Holder). Holds n x (get_or (set hands w h) k None)) (sym at_seat) (subst (Holds n s) (sym at_hand) now))
      (λ ne.
      subst (λ (x : Holder). Holds n x (get_or (set hands w h) k None)) (sym (get_or-set_other seats w k s d ne))
      (subst (Holds n (get_or seats k d)) (sym (get_or-set_other hands w k h None ne)) (all.1 k d (subst (λ i. k < i) (length-set hands w h) below)))),
)

get_or_front : (l : List (Option ℕ)) (x : Option ℕ) (k : ℕ) → k < length l → get_or (l ++ x ∷ []) k None ≡ get_or l k None
get_or_front [] x k below = absurd (omega arith)
get_or_front (y ∷ l) x zero below = refl
get_or_front (y ∷ l) x (suc k) below = get_or_front l x k (omega arith)

pub length_snoc : (l : List (Option ℕ)) (x : Option ℕ) → length (l ++ x ∷ []) ≡ length l + 1
length_snoc [] x = refl
length_snoc (y ∷ l) x = let r = length_snoc l x in omega arith

-- within a list the default is not looked at
pub same_hand : (l : List (Option ℕ)) (i : ℕ) (d e : Option ℕ) → i < length l → get_or l i d ≡ get_or l i e
same_hand [] i d e below = absurd (omega arith)
same_hand (x ∷ l) zero d e below = refl
same_hand (x ∷ l) (suc i) d e below = same_hand l i d e (omega arith)

-- the last hand is taken off
pub hold_front : (n : ℕ) (seats : List Holder) (rest all : List (Option ℕ)) (x : Option ℕ) → all ≡ rest ++ x ∷ [] → AllHold n seats all → AllHold n seats rest
hold_front n seats rest all x e h =
    let many : length all ≡ length rest + 1 = ap length e ∙ length_snoc rest x in (
      (let few = h.0 in omega arith),
      λ w d below. subst (Holds n (get_or seats w d)) (ap (λ l. get_or l w None) e ∙ get_or_front rest x w below) (h.1 w d (omega arith)),
    )

-- a seat past the hands made steps
pub hold_past : (n : ℕ) (seats : List Holder) (hands : List (Option ℕ)) (w : ℕ) (s : Holder) → length hands ≤ w → AllHold n seats hands → AllHold n (set seats w s) hands
hold_past n seats hands w s past all = (
  (let a = length-set seats w s in let few = all.0 in omega arith),
  λ k d below. subst (λ (x : Holder). Holds n x (get_or hands k None)) (sym (get_or-set_other seats w k s d (λ e. omega arith))) (all.1 k d below),
)
