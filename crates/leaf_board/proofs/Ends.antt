-- The board at its start, a number dealt to a seat, two seats joined, and the board at its end.
use Rattle.std.proofs.Common.{◌≡◌, ◌≢◌, ℕ, zero, suc, ◌+◌, ◌<◌, ◌≤◌, ◌⊎◌, inl, inr, ⊎_elim, List, [], ◌∷◌, ◌++◌, length, set, get_or, replicate, cond, eqb, eq-eqb, ne_eqb, refl, sym, ap, ◌∙◌, subst, arith}
use mathlib.Core.Option.{some, some-ne-none, some-injective}
use lib.ListN.{get_elem?}
use Rattle.atomic_table.specs.Table.{Splits, Joins, opening}
use Rattle.atomic_table.proofs.Lists.{at_set}
use Rattle.leaf_board.specs.Case.{BoardCase, sum_below}
use Rattle.leaf_board.specs.Statuses.{Unknown, Skipped, Published}
use Rattle.leaf_board.specs.Knowledge.{blank, status_of, Entry, entry}
use Rattle.leaf_board.specs.Rule.{given_count, Fits, Sound, Holds, Housed, NoneTwice, AreApart, Orderly, view, single, blanks, nothing, IsOpening}
use Rattle.leaf_board.specs.declared.view.View.{View}
use Rattle.leaf_board.proofs.Sums.{put, put_here, put_else}
use Rattle.leaf_board.proofs.Shares.{share_start-least}
use Rattle.leaf_board.proofs.Frame.{one_entry, one_alone, apart_put}

-- each of the blank entries
blank_entry : (c : BoardCase) (P : Entry → Type 0) (number count : ℕ) → ((n : ℕ) → number ≤ n → n < number + count → P (entry n (blank c))) → (j : ℕ) (e : Entry) → get_elem? (blanks c number count) j ≡ some e → P e
blank_entry c P number zero h j e is = absurd (some-ne-none e (sym is))
blank_entry c P number (suc count) h zero e is = subst P (some-injective _ _ is) (h number (omega arith) (omega arith))
blank_entry c P number (suc count) h (suc j) e is = blank_entry c P (suc number) count (λ n low high. h n (omega arith) (omega arith)) j e is

blank_number : (c : BoardCase) (number count j : ℕ) (e : Entry) → get_elem? (blanks c number count) j ≡ some e → e.number ≡ number + j
blank_number c number zero j e is = absurd (some-ne-none e (sym is))
blank_number c number (suc count) zero e is = let same : entry number (blank c) ≡ e = some-injective _ _ is in let n : number ≡ e.number = ap (λ (x : Entry). x.number) same in omega arith
blank_number c number (suc count) (suc j) e is = let r = blank_number c (suc number) count j e is in omega arith

replicate_all : {A : Type 0} (n i : ℕ) (a : A) → get_or (replicate n a) i a ≡ a
replicate_all zero i a = refl
replicate_all (suc n) zero a = refl
replicate_all (suc n) (suc i) a = replicate_all n i a

pub length_replicate : {A : Type 0} (n : ℕ) (a : A) → length (replicate n a) ≡ n
length_replicate zero a = refl
length_replicate (suc n) a = ap suc (length_replicate n a)

none_given : (n : ℕ) → given_count (replicate n Unknown) ≡ 0
none_given zero = refl
none_given (suc n) = let r = none_given n in omega arith

blank_away : (c : BoardCase) (leaf : ℕ) → status_of (blank c) leaf ≡ Unknown
blank_away c leaf = replicate_all c.leaves leaf Unknown

sum_zero : (f : ℕ → ℕ) (n : ℕ) → ((i : ℕ) → f i ≡ 0) → sum_below f n ≡ 0
sum_zero f zero h = refl
sum_zero f (suc n) h = let a = sum_zero f n h in let b : f n ≡ 0 = h n in omega arith

blank_fits : (c : BoardCase) (words : List ℕ) (number : ℕ) → IsOpening c words → Fits c words number (blank c)
blank_fits c words number o = record {
  all_leaves = length_replicate c.leaves Unknown;
  all_counts = length_replicate c.leaves 0;
  few_passed = omega arith;
  drew = (let n = none_given c.leaves in omega arith);
  drawn = λ share leaf _ _ _ g. absurd (g (blank_away c leaf));
  emptied = λ share _ e. absurd (omega arith);
  written = λ leaf count p. absurd (let x : Unknown ≡ Published count = sym (blank_away c leaf) ∙ p in cc);
  known = λ leaf some. absurd (some (replicate_all c.leaves leaf 0));
  no_later_cut = omega arith;
  least_known = (let u = o.uncut in omega arith);
  own_cuts = λ cut h. absurd (omega (arith, h.1));
  right_of_cut = λ leaf p. absurd (let x : Unknown ≡ Skipped = sym (blank_away c leaf) ∙ p in cc);
}

blank_sound : (c : BoardCase) (words : List ℕ) → 0 < c.seats → IsOpening c words → Sound c words (λ _. blank c)
blank_sound c words any o = record {
  sized = o.sized;
  fits = λ a at. blank_fits c words a o;
  once = λ a b leaf _ _ g h. absurd (g (blank_away c leaf));
  opened = λ share at. (let t = o.tickets share at in omega arith);
  given = λ share leaf at low high drawn. absurd (let t = o.tickets share at in omega arith);
  not_far = λ share at. (let t = o.tickets share at in let m = share_start-least c share (suc share) any (omega arith) in omega arith);
  by_one = λ leaf at some. absurd (some (o.leaves leaf at));
  cut_made = λ less. absurd (let u = o.uncut in omega arith);
  cut_within = (let u = o.uncut in omega arith);
  cut_justified = λ less. absurd (let u = o.uncut in omega arith);
}

-- the board at its start
pub opens : (c : BoardCase) (words : List ℕ) → 0 < c.seats → IsOpening c words → Orderly c (opening words [] (view (blanks c 0 c.seats)))
opens c words any o = record {
  know = λ _. blank c;
  holder = λ _. 0;
  housed = one;
  apart = alone;
  sound = blank_sound c words any o;
}
  where
    alone : AreApart (view (blanks c 0 c.seats) ∷ [])
    alone zero v is = subst (λ (x : View). NoneTwice x.entries) (some-injective _ _ is) (λ i j e f at_i at_j same. let a = blank_number c 0 c.seats i e at_i in let b = blank_number c 0 c.seats j f at_j in omega arith)
    alone (suc at) v is = absurd (some-ne-none v (sym is))

    one : Housed c (λ _. blank c) (λ _. 0) (view (blanks c 0 c.seats) ∷ [])
    one zero v is = subst (λ (x : View). Holds c (λ _. blank c) (λ _. 0) 0 x.entries) (some-injective _ _ is) (blank_entry c (λ e. (e.number < c.seats) × (0 ≡ 0) × (blank c ≡ e.knows)) 0 c.seats (λ n _ high. (omega arith, refl, refl)))
    one (suc at) v is = absurd (some-ne-none v (sym is))

-- a place of a list with one more at its end
snoc_at : {A : Type 0} (l : List A) (a b : A) (j : ℕ) → get_elem? (l ++ a ∷ []) j ≡ some b → (get_elem? l j ≡ some b) ⊎ ((j ≡ length l) × (a ≡ b))
snoc_at [] a b zero e = inr (refl, some-injective a b e)
snoc_at [] a b (suc j) e = absurd (some-ne-none b (sym e))
snoc_at (x ∷ xs) a b zero e = inl e
snoc_at (x ∷ xs) a b (suc j) e = ⊎_elim inl (λ t. inr (ap suc t.0, t.1)) (snoc_at xs a b j e)

in_range : {A : Type 0} (l : List A) (j : ℕ) (b : A) → get_elem? l j ≡ some b → j < length l
in_range [] j b e = absurd (some-ne-none b (sym e))
in_range (x ∷ xs) zero b e = omega arith
in_range (x ∷ xs) (suc j) b e = let r = in_range xs j b e in omega arith

length_set : {A : Type 0} (l : List A) (i : ℕ) (a : A) → length (set l i a) ≡ length l
length_set [] i a = refl
length_set (x ∷ xs) zero a = refl
length_set (x ∷ xs) (suc i) a = ap suc (length_set xs i a)

-- the first of the numbers goes to a seat of its own
pub deals : (c : BoardCase) (id number count : ℕ) → Splits (Orderly c) id (view (blanks c number (suc count))) (view (blanks c (suc number) count)) (single number (blank c))
deals c id number count s h at = record {
  know = h.know;
  holder = put h.holder number (length s.views);
  housed = housed;
  apart = apart;
  sound = h.sound;
}
  where
    mine : (number < c.seats) × (h.holder number ≡ id) × (h.know number ≡ blank c)
    mine = h.housed id (view (blanks c number (suc count))) at 0 (entry number (blank c)) refl

    after : ℕ → ℕ
    after = put h.holder number (length s.views)

    rest : (j : ℕ) (e : Entry) → get_elem? (blanks c (suc number) count) j ≡ some e → (e.number < c.seats) × (after e.number ≡ id) × (h.know e.number ≡ e.knows)
    rest j e is =
        let was = h.housed id (view (blanks c number (suc count))) at (suc j) e is in
        let later = blank_entry c (λ x. suc number ≤ x.number) (suc number) count (λ n low _. low) j e is in
        (was.0, put_else h.holder number (length s.views) e.number (λ same. omega arith) ∙ was.1, was.2)

    old : (x : ℕ) (v : View) → x ≢ id → get_elem? s.views x ≡ some v → Holds c h.know after x v.entries
    old x v apart is j e found =
        let was = h.housed x v is j e found in
        (was.0, put_else h.holder number (length s.views) e.number (λ same. apart (sym was.1 ∙ ap h.holder same ∙ mine.1)) ∙ was.1, was.2)

    new : (x : ℕ) → x ≡ length (set s.views id (view (blanks c (suc number) count))) → Holds c h.know after x (entry number (blank c) ∷ [])
    new x is = one_entry number (blank c) (λ e. (e.number < c.seats) × (after e.number ≡ x) × (h.know e.number ≡ e.knows))
        (mine.0, put_here h.holder number (length s.views) ∙ sym (is ∙ length_set s.views id (view (blanks c (suc number) count))), mine.2)

    housed : Housed c h.know after (set s.views id (view (blanks c (suc number) count)) ++ single number (blank c) ∷ [])
    housed x v is =
        ⊎_elim
        (λ was.
        ⊎_elim
        (λ (t : (x ≡ id) × (view (blanks c (suc number) count) ≡ v)). subst (λ (w : View). Holds c h.know after x w.entries) t.1 (λ j e found. let r = rest j e found in (r.0, r.1 ∙ sym t.0, r.2)))
        (λ (t : (x ≢ id) × (get_elem? s.views x ≡ some v)). old x v t.0 t.1)
        (at_set s.views id x (view (blanks c (suc number) count)) v was))
        (λ (t : (x ≡ length (set s.views id (view (blanks c (suc number) count)))) × (single number (blank c) ≡ v)). subst (λ (w : View). Holds c h.know after x w.entries) t.1 (new x t.0))
        (snoc_at (set s.views id (view (blanks c (suc number) count))) (single number (blank c)) v x is)

    left_apart : NoneTwice (blanks c (suc number) count)
    left_apart i j e f at_i at_j same = let r = h.apart id (view (blanks c number (suc count))) at (suc i) (suc j) e f at_i at_j same in omega arith

    apart : AreApart (set s.views id (view (blanks c (suc number) count)) ++ single number (blank c) ∷ [])
    apart x v is =
        ⊎_elim
        (λ was. apart_put s.views id (view (blanks c (suc number) count)) left_apart h.apart x v was)
        (λ (t : (x ≡ length (set s.views id (view (blanks c (suc number) count)))) × (single number (blank c) ≡ v)). subst (λ (w : View). NoneTwice w.entries) t.1 (one_alone (entry number (blank c))))
        (snoc_at (set s.views id (view (blanks c (suc number) count))) (single number (blank c)) v x is)

-- an entry of two lists, with its place
append_place : {A : Type 0} (l m : List A) (j : ℕ) (b : A) → get_elem? (l ++ m) j ≡ some b → (get_elem? l j ≡ some b) ⊎ ((i : ℕ) × (j ≡ length l + i) × (get_elem? m i ≡ some b))
append_place [] m j b e = inr (j, omega arith, e)
append_place (x ∷ xs) m zero b e = inl e
append_place (x ∷ xs) m (suc j) b e = ⊎_elim inl (λ t. inr (t.0, omega (arith, t.1), t.2)) (append_place xs m j b e)

-- an entry of two lists
append_at : {A : Type 0} (l m : List A) (j : ℕ) (b : A) → get_elem? (l ++ m) j ≡ some b → ((i : ℕ) × (get_elem? l i ≡ some b)) ⊎ ((i : ℕ) × (get_elem? m i ≡ some b))
append_at [] m j b e = inr (j, e)
append_at (x ∷ xs) m zero b e = inl (0, e)
append_at (x ∷ xs) m (suc j) b e = ⊎_elim (λ t. inl (suc t.0, t.1)) (λ t. inr t) (append_at xs m j b e)

pub front_at : {A : Type 0} (l m : List A) (i : ℕ) (b : A) → get_elem? l i ≡ some b → get_elem? (l ++ m) i ≡ some b
front_at [] m i b e = absurd (some-ne-none b (sym e))
front_at (x ∷ xs) m zero b e = e
front_at (x ∷ xs) m (suc i) b e = front_at xs m i b e

pub back_at : {A : Type 0} (l m : List A) (i : ℕ) (b : A) → get_elem? m i ≡ some b → get_elem? (l ++ m) (length l + i) ≡ some b
back_at [] m i b e = subst (λ n. get_elem? m n ≡ some b) (omega arith) e
back_at (x ∷ xs) m i b e = let next : suc (length xs + i) ≡ suc (length xs) + i = omega arith in subst (λ n. get_elem? (x ∷ xs ++ m) n ≡ some b) next (back_at xs m i b e)

-- two seats are joined, and the second is spent
pub joins : (c : BoardCase) (id other : ℕ) (v w : View) → Joins (Orderly c) id v other w (view (v.entries ++ w.entries)) nothing
joins c id other v w s h at apart there = record {
  know = h.know;
  holder = after;
  housed = housed;
  apart = all_apart;
  sound = h.sound;
}
  where
    both : View
    both = view (v.entries ++ w.entries)

    after : ℕ → ℕ
    after a = cond (eqb (h.holder a) other) id (h.holder a)

    moved : (a : ℕ) → h.holder a ≡ other → after a ≡ id
    moved a e = ap (λ b. cond b id (h.holder a)) (eq-eqb (h.holder a) other e)

    stays : (a : ℕ) → h.holder a ≢ other → after a ≡ h.holder a
    stays a ne = ap (λ b. cond b id (h.holder a)) (ne_eqb (h.holder a) other ne)

    theirs : get_elem? s.views other ≡ some w
    theirs = ⊎_elim (λ (t : (other ≡ id) × (both ≡ w)). absurd (apart t.0)) (λ (t : (other ≢ id) × (get_elem? s.views other ≡ some w)). t.1) (at_set s.views id other both w there)

    both_apart : NoneTwice (v.entries ++ w.entries)
    both_apart i j e f at_i at_j same =
        ⊎_elim
        (λ left_i.
        ⊎_elim
        (λ left_j. h.apart id v at i j e f left_i left_j same)
        (λ right_j. absurd (apart (sym (h.housed other w theirs right_j.0 f right_j.2).1 ∙ ap h.holder (sym same) ∙ (h.housed id v at i e left_i).1)))
        (append_place v.entries w.entries j f at_j))
        (λ right_i.
        ⊎_elim
        (λ left_j. absurd (apart (sym (h.housed other w theirs right_i.0 e right_i.2).1 ∙ ap h.holder same ∙ (h.housed id v at j f left_j).1)))
        (λ right_j. let r = h.apart other w theirs right_i.0 right_j.0 e f right_i.2 right_j.2 same in let a = right_i.1 in let b = right_j.1 in omega arith)
        (append_place v.entries w.entries j f at_j))
        (append_place v.entries w.entries i e at_i)

    none_apart : NoneTwice []
    none_apart i j e f at_i at_j same = absurd (some-ne-none e (sym at_i))

    all_apart : AreApart (set (set s.views id both) other nothing)
    all_apart = apart_put (set s.views id both) other nothing none_apart (apart_put s.views id both both_apart h.apart)

    joined : (x : ℕ) → x ≡ id → Holds c h.know after x (v.entries ++ w.entries)
    joined x is j e found =
        ⊎_elim
        (λ t. let was = h.housed id v at t.0 e t.1 in (was.0, stays e.number (λ z. apart (sym z ∙ was.1)) ∙ was.1 ∙ sym is, was.2))
        (λ t. let was = h.housed other w theirs t.0 e t.1 in (was.0, moved e.number was.1 ∙ sym is, was.2))
        (append_at v.entries w.entries j e found)

    housed : Housed c h.know after (set (set s.views id both) other nothing)
    housed x u is =
        ⊎_elim
        (λ (t : (x ≡ other) × (nothing ≡ u)). subst (λ (y : View). Holds c h.know after x y.entries) t.1 (λ j e found. absurd (some-ne-none e (sym found))))
        (λ (t : (x ≢ other) × (get_elem? (set s.views id both) x ≡ some u)).
        ⊎_elim
        (λ (r : (x ≡ id) × (both ≡ u)). subst (λ (y : View). Holds c h.know after x y.entries) r.1 (joined x r.0))
        (λ (r : (x ≢ id) × (get_elem? s.views x ≡ some u)). λ j e found. let was = h.housed x u r.1 j e found in (was.0, stays e.number (λ z. t.0 (sym was.1 ∙ z)) ∙ was.1, was.2))
        (at_set s.views id x both u t.1))
        (at_set (set s.views id both) other x nothing u is)
