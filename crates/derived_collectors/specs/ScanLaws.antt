-- What running totals keep.
use Rattle.std.specs.Prelude.{◌≡◌, ◌<◌, ◌≤◌, ◌+◌, ◌-◌, ℕ, List, [], ◌∷◌, ◌++◌, length, fold, map, take, slice_get, All, Option, Some, None, ⊤, refl}
use Rattle.std.specs.Option.{option_map}
use Rattle.std.proofs.Common.{zero, suc, sym, ap, ◌∙◌, append_assoc, append-nil, arith}
use Rattle.std.proofs.lemmas.List.{map-append, map-id}
use Rattle.std.proofs.lemmas.List.Elements.{All-head, All-tail, All-cons, All-nil}
use Rattle.stages.specs.Operators.{IsAssociative}
use Rattle.collectors.specs.Laws.{CollectorLaws}
use Rattle.collectors.specs.Reductions.{reduced}
use Rattle.derived_collectors.specs.Scans.{IsScan, last_from, last, joined_to, scan_add, scan_merge}

-- the later of two, where it is there
abbrev later : {C : Type 0} → Option C → Option C → Option C
later o None = o
later o (Some a) = Some a

later-none : {C : Type 0} (o : Option C) → later None o ≡ o
later-none None = refl
later-none (Some a) = refl

last_from-append : {C : Type 0} (x : C) (l r : List C) → Some (last_from x (l ++ r)) ≡ later (Some (last_from x l)) (last r)
last_from-append x [] [] = refl
last_from-append x [] (y ∷ r) = refl
last_from-append x (y ∷ l) r = last_from-append y l r

last-append : {C : Type 0} (l r : List C) → last (l ++ r) ≡ later (last l) (last r)
last-append [] r = sym (later-none (last r))
last-append (x ∷ l) r = last_from-append x l r

last_from-map : {C D : Type 0} (f : C → D) (x : C) (l : List C) → last_from (f x) (map f l) ≡ f (last_from x l)
last_from-map f x [] = refl
last_from-map f x (y ∷ l) = last_from-map f y l

pub last-map : {C D : Type 0} (f : C → D) (l : List C) → last (map f l) ≡ option_map f (last l)
last-map f [] = refl
last-map f (x ∷ l) = ap Some (last_from-map f x l)

-- the last item, by its place
last_from-get : {C : Type 0} (x : C) (l : List C) → slice_get (x ∷ l) (length l) ≡ Some (last_from x l)
last_from-get x [] = refl
last_from-get x (y ∷ l) = last_from-get y l

pub last-get : {C : Type 0} (l : List C) → slice_get l (length l - 1) ≡ last l
last-get [] = refl
last-get (x ∷ l) =
    let place : suc (length l) - 1 ≡ length l = omega arith in
    ap (slice_get (x ∷ l)) place ∙ last_from-get x l

pub last-content : {C D : Type 0} (f : C → D) (l : List C) (x : C) → Some x ≡ slice_get l (length l - 1) → last (map f l) ≡ Some (f x)
last-content f l x e = last-map f l ∙ ap (option_map f) (sym (e ∙ last-get l))

pub last-none : {C D : Type 0} (f : C → D) (l : List C) → None ≡ slice_get l (length l - 1) → last (map f l) ≡ None
last-none f l e = last-map f l ∙ ap (option_map f) (sym (e ∙ last-get l))

abbrev IsValueOf : {C : Type 0} → (C → Type 0) → Option C → Type 0
IsValueOf is_value None = ⊤
IsValueOf is_value (Some a) = is_value a

last_from-value : {C : Type 0} (is_value : C → Type 0) (x : C) (l : List C) → is_value x → All is_value l → is_value (last_from x l)
last_from-value is_value x [] v vs = v
last_from-value is_value x (y ∷ l) v vs = last_from-value is_value y l (All-head is_value y l vs) (All-tail is_value y l vs)

last-value : {C : Type 0} (is_value : C → Type 0) (l : List C) → All is_value l → IsValueOf is_value (last l)
last-value is_value [] vs = tt
last-value is_value (x ∷ l) vs = last_from-value is_value x l (All-head is_value x l vs) (All-tail is_value x l vs)

pub joined_to-none : {C : Type 0} (join : C → C → C) (l : List C) → map (joined_to join None) l ≡ l
joined_to-none join l = map-id l

module _ {C : Type 0} (join : C → C → C) where
  -- the totals from a first one on
  abbrev totals_from : C → List C → List C
  totals_from a [] = a ∷ []
  totals_from a (x ∷ l) = a ∷ totals_from (join a x) l

  abbrev totals : List C → List C
  totals [] = []
  totals (x ∷ l) = totals_from x l

  last-push : (l : List C) (a : C) → last (l ++ a ∷ []) ≡ Some a
  last-push l a = last-append l (a ∷ [])

  scanned_from : (done : List C) (a : C) (l : List C) → fold (scan_add join) (done ++ a ∷ []) l ≡ done ++ totals_from a l
  scanned_from done a [] = refl
  scanned_from done a (x ∷ l) =
      ap (λ o. fold (scan_add join) ((done ++ a ∷ []) ++ joined_to join o x ∷ []) l) (last-push done a)
      ∙ scanned_from (done ++ a ∷ []) (join a x) l
      ∙ append_assoc done (a ∷ []) (totals_from (join a x) l)

  -- the container of a list has its totals
  scanned : (l : List C) → fold (scan_add join) [] l ≡ totals l
  scanned [] = refl
  scanned (x ∷ l) = scanned_from [] x l

  length-totals_from : (a : C) (l : List C) → length (totals_from a l) ≡ suc (length l)
  length-totals_from a [] = refl
  length-totals_from a (x ∷ l) = ap suc (length-totals_from (join a x) l)

  totals_from-get : (a : C) (l : List C) (i : ℕ) → i ≤ length l → slice_get (totals_from a l) i ≡ Some (fold join a (take i l))
  totals_from-get a [] zero h = refl
  totals_from-get a [] (suc i) h = absurd (omega arith)
  totals_from-get a (x ∷ l) zero h = refl
  totals_from-get a (x ∷ l) (suc i) h = totals_from-get (join a x) l i (omega arith)

  totals-get : (l : List C) (i : ℕ) → i < length l → slice_get (totals l) i ≡ reduced join (take (i + 1) l)
  totals-get [] i h = absurd (omega arith)
  totals-get (x ∷ l) i h =
      let next : suc i ≡ i + 1 = omega arith in
      totals_from-get x l i (omega arith) ∙ ap (λ n. reduced join (take n (x ∷ l))) next

  length-totals : (l : List C) → length (totals l) ≡ length l
  length-totals [] = refl
  length-totals (x ∷ l) = length-totals_from x l

  pub IsScan-fold : (l r : List C) → r ≡ fold (scan_add join) [] l → IsScan join l r
  IsScan-fold l r made =
      let same = made ∙ scanned l in
      record {
        all = ap length same ∙ length-totals l;
        each = λ i h. ap (λ t. slice_get t i) same ∙ totals-get l i h;
      }

  module _ (is_value : C → Type 0) (joins : (x y : C) → is_value x → is_value y → is_value (join x y)) (associative : IsAssociative is_value join) where
    totals_from-values : (a : C) (l : List C) → is_value a → All is_value l → All is_value (totals_from a l)
    totals_from-values a [] v vs = All-cons is_value a [] v (All-nil is_value)
    totals_from-values a (x ∷ l) v vs =
        All-cons is_value a (totals_from (join a x) l) v
        (totals_from-values (join a x) l (joins a x v (All-head is_value x l vs)) (All-tail is_value x l vs))

    totals-values : (l : List C) → All is_value l → All is_value (totals l)
    totals-values [] vs = All-nil is_value
    totals-values (x ∷ l) vs = totals_from-values x l (All-head is_value x l vs) (All-tail is_value x l vs)

    last-values : (l : List C) → All is_value l → IsValueOf is_value (last (fold (scan_add join) [] l))
    last-values l vs = rw scanned (last-value is_value (totals l) (totals-values l vs))

    regrouped : (o p : Option C) (x : C) → IsValueOf is_value o → IsValueOf is_value p → is_value x
        → joined_to join o (joined_to join p x) ≡ joined_to join (later o (option_map (joined_to join o) p)) x
    regrouped None None x u v w = refl
    regrouped None (Some b) x u v w = refl
    regrouped (Some a) None x u v w = refl
    regrouped (Some a) (Some b) x u v w = associative a b x u v w

    merge-add : (l r : List C) (x : C) → IsValueOf is_value (last l) → IsValueOf is_value (last r) → is_value x
        → scan_merge join l (scan_add join r x) ≡ scan_add join (scan_merge join l r) x
    merge-add l r x u v w =
        let j = joined_to join (last l) in
        let y = joined_to join (last r) x in
        let before : last (l ++ map j r) ≡ later (last l) (option_map j (last r)) = last-append l (map j r) ∙ ap (later (last l)) (last-map j r) in
        ap (λ t. l ++ t) (map-append j r (y ∷ []))
        ∙ sym (append_assoc l (map j r) (j y ∷ []))
        ∙ ap (λ z. (l ++ map j r) ++ z ∷ []) (regrouped (last l) (last r) x u v w ∙ ap (λ o. joined_to join o x) (sym before))

    pub scan_laws : CollectorLaws is_value [] (scan_add join) (scan_merge join)
    scan_laws = record {
      identity = λ l v. append-nil (fold (scan_add join) [] l);
      associativity = λ l r x v w u. merge-add (fold (scan_add join) [] l) (fold (scan_add join) [] r) x (last-values l v) (last-values r w) u;
    }
