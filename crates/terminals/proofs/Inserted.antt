-- Items that are put into a list in order make its sorted list.
use Rattle.std.specs.Prelude.{◌≡◌, ◌+◌, ℕ, zero, suc, Bool, true, false, cond, All, List, [], ◌∷◌, ◌++◌, fold, map, take, refl, ⊤}
use Rattle.std.proofs.Common.{ap, ap₂, sym, subst, ◌∙◌, arith, append_assoc, append-nil}
use Rattle.std.proofs.lemmas.List.{map-append, map_push, take-map, take-take}
use Rattle.std.proofs.lemmas.List.Elements.{All-cons, All-head, All-nil, All-tail, All-weaker, All-get_or, All-take, filter-append, filter_agree}
use Rattle.std.proofs.lemmas.List.Sorted.{IsPermutation-cons, IsPermutation-middle, IsPermutation-push_more, IsPermutation-refl, IsPermutation-trans, ranks_by}
use Rattle.std.specs.Cmp.{IsStrictWeakOrder, IsTotalOrder}
use Rattle.std.specs.List.{filter}
use Rattle.std.specs.List.Sorted.{IsPermutation, IsSortedBy, ties}
use Rattle.std.specs.Ordering.{is_lt}
use Rattle.std.specs.declared.cmp.Ordering.{Ordering}
use Rattle.stages.specs.Tests.{either}
use Rattle.collectors.specs.Grouping.{contents}
use Rattle.terminals.specs.FirstSorted.{add_keyed, first_of, key_below, IsFrontOfSorted}
use Rattle.terminals.specs.Sorted.{IsSortedList, by_key}
use Rattle.terminals.specs.Insertion.{add_first, first-append, first-push, first_sorted, insert_sorted, merge-sorted_of, merge_first, merge_sorted, sorted_of}
use Rattle.terminals.specs.SortedLaws.{no-tie, sorted_by_key-once, ties-alike}
use Rattle.terminals.proofs.Images.{sorted-contents}

module _ {X : Type 0} (below : X → X → Bool) where
  -- no member is below one in front of it
  abbrev pub Ascends : List X → Type 0
  Ascends [] = ⊤
  Ascends (y ∷ s) = All (λ z. below z y ≡ false) s × Ascends s

  all-inserted : (P : X → Type 0) (s : List X) (x : X) → P x → All P s → All P (insert_sorted below s x)
  all-inserted P [] x holds all = All-cons P x [] holds all
  all-inserted P (y ∷ s) x holds all =
      let rest = all-inserted P s x holds (All-tail P y s all) in
      either (below x y)
      (λ h. rw h (All-cons P x (y ∷ s) holds all))
      (λ h. rw h (All-cons P y (insert_sorted below s x) (All-head P y s all) rest))

  permuted : (s : List X) (x : X) → IsPermutation (x ∷ s) (insert_sorted below s x)
  permuted [] x = IsPermutation-refl (x ∷ [])
  permuted (y ∷ s) x =
      either (below x y)
      (λ h. rw h (IsPermutation-refl (x ∷ y ∷ s)))
      (λ h. rw h (IsPermutation-trans (x ∷ y ∷ s) (y ∷ x ∷ s) (y ∷ insert_sorted below s x) (IsPermutation-middle (x ∷ []) y s) (IsPermutation-cons y (x ∷ s) (insert_sorted below s x) (permuted s x))))

  module _ (weak : IsStrictWeakOrder below) where
    ascending : (s : List X) (x : X) → Ascends s → Ascends (insert_sorted below s x)
    ascending [] x up = (All-nil (λ z. below z x ≡ false), tt)
    ascending (y ∷ s) x up =
        either (below x y)
        (λ h.
        let above : All (λ z. below z x ≡ false) (y ∷ s) = All-cons (λ z. below z x ≡ false) y s (weak.one_way x y h)
        (All-weaker (λ z. below z y ≡ false) (λ z. below z x ≡ false) (λ z high. weak.chain z y x high (weak.one_way x y h)) s up.0) in
        rw h (above, up))
        (λ h. rw h (all-inserted (λ z. below z y ≡ false) s x h up.0, ascending s x up.1))

    -- what ties with an item that is below y ties with none from y on
    none-ties : (c x y : X) (s : List X) → below x y ≡ true → ties below c x ≡ true → All (λ z. below z y ≡ false) s → filter (ties below c) (y ∷ s) ≡ []
    none-ties c x y s low tie above =
        filter_agree (ties below c) (ties below x) (λ z. ties-alike below weak c x z tie) (y ∷ s) ∙ no-tie below weak x y s low above

    stable : (c : X) (s : List X) (x : X) → Ascends s → filter (ties below c) (insert_sorted below s x) ≡ filter (ties below c) (s ++ x ∷ [])
    stable c [] x up = refl
    stable c (y ∷ s) x up =
        let p = ties below c in
        either (below x y)
        (λ h. either (p x)
        (λ t.
        let none = none-ties c x y s h t up.0 in
        rw h (rw t (ap (λ l. x ∷ l) none ∙ sym (filter-append p (y ∷ s) (x ∷ []) ∙ ap₂ ◌++◌ none (rw t refl)))))
        (λ t. rw h (rw t (sym (append-nil (filter p (y ∷ s))) ∙ sym (filter-append p (y ∷ s) (x ∷ []) ∙ ap (λ l. filter p (y ∷ s) ++ l) (rw t refl))))))
        (λ h. rw h (ap (λ l. cond (p y) (y ∷ l) l) (stable c s x up.1)))

    by_places : (s : List X) → Ascends s → IsSortedBy below s
    by_places [] up k d low within = absurd (omega arith)
    by_places (y ∷ s) up zero d low within = All-get_or (λ z. below z y ≡ false) s 0 d (omega arith) up.0
    by_places (y ∷ s) up (suc k) d low within = let next : suc k + 1 ≡ suc (k + 1) = omega arith in rw next (by_places s up.1 k d (omega arith) (omega arith))

    record Is (l s : List X) : Type 0 where
      ascends : Ascends s
      moved : IsPermutation l s
      keeps : (c : X) → filter (ties below c) s ≡ filter (ties below c) l

    next : (l s : List X) (x : X) → Is l s → Is (l ++ x ∷ []) (insert_sorted below s x)
    next l s x is = record {
      ascends = ascending s x is.ascends;
      moved = IsPermutation-push_more l s (insert_sorted below s x) x is.moved (permuted s x);
      keeps = λ c.
          let p = ties below c in
          stable c s x is.ascends ∙ filter-append p s (x ∷ []) ∙ ap (λ m. m ++ filter p (x ∷ [])) (is.keeps c) ∙ sym (filter-append p l (x ∷ []));
    }

    inserted : (done s l : List X) → Is done s → Is (done ++ l) (fold (insert_sorted below) s l)
    inserted done s [] is = subst (λ m. Is m s) (sym (append-nil done)) is
    inserted done s (x ∷ l) is =
        subst (λ m. Is m (fold (insert_sorted below) (insert_sorted below s x) l)) (append_assoc done (x ∷ []) l)
        (inserted (done ++ x ∷ []) (insert_sorted below s x) l (next done s x is))

    -- an ascending list is its own sorted list
    one-first : (x : X) (s : List X) → All (λ z. below z x ≡ false) s → merge_sorted below (x ∷ []) s ≡ x ∷ s
    one-first x [] above = refl
    one-first x (y ∷ s) above = rw (All-head (λ z. below z x ≡ false) y s above) refl

    already : (s : List X) → Ascends s → sorted_of below s ≡ s
    already [] up = refl
    already (x ∷ s) up =
        sym (merge-sorted_of below weak (x ∷ []) s) ∙ ap (merge_sorted below (x ∷ [])) (already s up.1) ∙ one-first x s up.0

    front-ascends : (n : ℕ) (s : List X) → Ascends s → Ascends (take n s)
    front-ascends zero s up = tt
    front-ascends (suc n) [] up = tt
    front-ascends (suc n) (y ∷ s) up = (All-take (λ z. below z y ≡ false) n s up.0, front-ascends n s up.1)

    sorted-ascends : (l : List X) → Ascends (sorted_of below l)
    sorted-ascends l = (inserted [] [] l (record { ascends = tt; moved = IsPermutation-refl []; keeps = λ c. refl })).ascends

    pub first-ascends : (n : ℕ) (l : List X) → Ascends (first_sorted below n l)
    first-ascends n l = front-ascends n (sorted_of below l) (sorted-ascends l)

    -- the first ones are their own first ones
    pub first-again : (n : ℕ) (l : List X) → first_sorted below n (first_sorted below n l) ≡ first_sorted below n l
    first-again n l =
        ap (take n) (already (take n (sorted_of below l)) (first-ascends n l))
        ∙ take-take n n (sorted_of below l) (omega arith)

-- items that are put in one after another make the one sorted list
pub sorted_of-sorted : {X : Type 0} (order : X → X → Ordering) → IsStrictWeakOrder (λ (x y : X). is_lt (order x y)) → (l : List X)
    → IsSortedList order l (sorted_of (λ x y. is_lt (order x y)) l)
sorted_of-sorted {X} order weak l =
    let below : X → X → Bool = λ x y. is_lt (order x y) in
    let is = inserted below weak [] [] l (record { ascends = tt; moved = IsPermutation-refl []; keeps = λ c. refl }) in
    record { permutation = is.moved; ascending = by_places below weak (sorted_of below l) is.ascends; stable = is.keeps }

-- pairs that are sorted by their first parts are what their contents make, put in one after another
pub sorted-inserted : {J T L C : Type 0} (key_content : J → L) (content : T → C) (cmp : J → J → Ordering) (order : L → L → Ordering)
    → ((x y : J) → cmp x y ≡ order (key_content x) (key_content y)) → IsTotalOrder order
    → (ps qs : List (J × T)) → IsSortedList (by_key (λ p. p.0) cmp) ps qs → contents key_content content qs ≡ sorted_of (key_below order) (contents key_content content ps)
sorted-inserted {J} {T} {L} {C} key_content content cmp order agrees total ps qs h =
    let shown : J × T → L × C = λ p. (key_content p.0, content p.1) in
    let below : J × T → J × T → Bool = λ p q. is_lt (cmp p.0 q.0) in
    let by_first : L × C → L × C → Ordering = by_key (λ p. p.0) order in
    let weak : IsStrictWeakOrder (λ (p q : L × C). is_lt (by_first p q)) = ranks_by total (λ p. p.0) in
    let made = sorted-contents shown below by_first weak (λ p q. ap is_lt (agrees p.0 q.0)) ps qs h.permutation h.ascending h.stable in
    sorted_by_key-once (λ p. p.0) order total (map shown ps) (map shown qs) (sorted_of (key_below order) (map shown ps)) made (sorted_of-sorted by_first weak (map shown ps))

-- what is kept of a list, without the keys, is the front of its sorted list
pub front-kept : {T J C K : Type 0} (key_content : J → K) (content : T → C) (order : K → K → Ordering) (key : C → K) → IsTotalOrder order
    → (number : ℕ) (l : List C) (ps : List (J × T)) (items : List T) → contents key_content content ps ≡ fold (add_keyed order key number) [] l → items ≡ map (λ p. p.1) ps
    → IsFrontOfSorted (by_key key order) number l (map content items)
front-kept key_content content order key total number l ps items made are = (
  sorted_of (λ c d. is_lt (by_key key order c d)) l,
  sorted_of-sorted (by_key key order) (ranks_by total key) l,
  ap (map content) are ∙ seconds ps ∙ first_of order key number l (contents key_content content ps) made,
)
  where
    seconds : (ps : List (_ × _)) → map content (map (λ p. p.1) ps) ≡ map (λ p. p.1) (contents key_content content ps)
    seconds [] = refl
    seconds (p ∷ ps) = ap (λ l. content p.1 ∷ l) (seconds ps)

module _ {J T L C : Type 0} (key_content : J → L) (content : T → C) (below : L × C → L × C → Bool) (number : ℕ) where
  abbrev seen : List (J × T) → List (L × C)
  seen ps = contents key_content content ps

  pub kept-first : (old sorted kept : List (J × T)) → seen sorted ≡ sorted_of below (seen old) → kept ≡ take number sorted → seen kept ≡ first_sorted below number (seen old)
  kept-first old sorted kept made is = ap seen is ∙ sym (take-map (λ p. (key_content p.0, content p.1)) number sorted) ∙ ap (take number) made

  pub kept-again : IsStrictWeakOrder below → (old kept : List (J × T)) → seen kept ≡ first_sorted below number (seen old) → first_sorted below number (seen kept) ≡ first_sorted below number (seen old)
  kept-again weak old kept first = ap (first_sorted below number) first ∙ first-again below weak number (seen old)

  pub put-first : (old pushed : List (J × T)) (p : J × T) → pushed ≡ old ++ p ∷ []
      → first_sorted below number (seen pushed) ≡ add_first below number (first_sorted below number (seen old)) (key_content p.0, content p.1)
  put-first old pushed p is =
      ap (λ ps. first_sorted below number (seen ps)) is
      ∙ ap (first_sorted below number) (map_push (λ p. (key_content p.0, content p.1)) old p)
      ∙ first-push below number (seen old) (key_content p.0, content p.1)

  pub append-first : IsStrictWeakOrder below → (old later whole : List (J × T)) → whole ≡ old ++ later
      → first_sorted below number (seen whole) ≡ merge_first below number (first_sorted below number (seen old)) (first_sorted below number (seen later))
  append-first weak old later whole is =
      ap (λ ps. first_sorted below number (seen ps)) is
      ∙ ap (first_sorted below number) (map-append (λ p. (key_content p.0, content p.1)) old later)
      ∙ first-append below weak number (seen old) (seen later)
