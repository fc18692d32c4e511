-- What a set keeps of a list.
use Rattle.std.proofs.Common.{◌≡◌, ◌≤◌, ◌-◌, ℕ, arith, Bool, true, false, cond, not, ◌||◌, None, Result, Ok, Err, IfOk, List, [], ◌∷◌, ◌++◌, filter, map, fold, take, drop, length, ap, ap₂, ◌∙◌, sym, refl, append_assoc, append-nil}
use Rattle.std.specs.List.{list_any}
use Rattle.std.proofs.lemmas.List.{map-append, length-map, length-append, length-drop, drop-map}
use Rattle.std.proofs.lemmas.List.Folds.{list_any-append}
use Rattle.std.proofs.Math.Seq.{take-length}
use Rattle.indexmap.specs.IndexSet.{insert_key}
use Rattle.spliterator.specs.Values.{DecidesEquality}
use Rattle.stages.specs.Distinct.{distinct, distinct_after}
use Rattle.stages.specs.Tests.{either}
use Rattle.barriers.specs.Thinned.{IsThinned}

pub all-behind : {T : Type 0} (n : ℕ) (l : List T) → take (length l - n) (drop n l) ≡ drop n l
all-behind n l = ap (λ m. take m (drop n l)) (sym (length-drop n l)) ∙ take-length (drop n l)

module _ {C : Type 0} (same : C → C → Bool) (decides : DecidesEquality same) where
  abbrev among : C → List C → Bool
  among k ks = list_any (same k) ks

  -- of what came before only this matters: what is among it
  alike-earlier : (E F ks : List C) → ((k : C) → among k E ≡ among k F) → distinct_after same E ks ≡ distinct_after same F ks
  alike-earlier E F [] alike = refl
  alike-earlier E F (x ∷ ks) alike =
      let more : (k : C) → among k (E ++ x ∷ []) ≡ among k (F ++ x ∷ []) =
      λ k. list_any-append (same k) E (x ∷ []) ∙ ap (λ b. b || (same k x || false)) (alike k) ∙ sym (list_any-append (same k) F (x ∷ [])) in
      ap₂ (λ b l. cond b l (x ∷ l)) (alike x) (alike-earlier (E ++ x ∷ []) (F ++ x ∷ []) ks more)

  -- an item that came before is dropped, and what came before stays as it was
  known-item : (E ks : List C) (x : C) → among x E ≡ true → distinct_after same E (x ∷ ks) ≡ distinct_after same E ks
  known-item E ks x there =
      ap (λ b. cond b (distinct_after same (E ++ x ∷ []) ks) (x ∷ distinct_after same (E ++ x ∷ []) ks)) there ∙ alike-earlier (E ++ x ∷ []) E ks alike
    where
      or-itself : (a b : Bool) → (b ≡ true → a ≡ true) → (a || (b || false)) ≡ a
      or-itself true b h = refl
      or-itself false false h = refl
      or-itself false true h = sym (h refl)

      alike : (k : C) → among k (E ++ x ∷ []) ≡ among k E
      alike k = list_any-append (same k) E (x ∷ []) ∙ or-itself (among k E) (same k x) (λ h. ap (λ c. among c E) ((decides k x).0 h) ∙ there)

  new-item : (E ks : List C) (x : C) → among x E ≡ false → distinct_after same E (x ∷ ks) ≡ x ∷ distinct_after same (E ++ x ∷ []) ks
  new-item E ks x none = ap (λ b. cond b (distinct_after same (E ++ x ∷ []) ks) (x ∷ distinct_after same (E ++ x ∷ []) ks)) none

  -- what is new in one list and then in a second: behind the first, what was new in it came too
  new-both : (E ks more : List C) → distinct_after same E (ks ++ more) ≡ distinct_after same E ks ++ distinct_after same (E ++ distinct_after same E ks) more
  new-both E [] more = ap (λ l. distinct_after same l more) (sym (append-nil E))
  new-both E (x ∷ ks) more =
      either (among x E)
      (λ there.
      known-item E (ks ++ more) x there
      ∙ new-both E ks more
      ∙ ap (λ l. l ++ distinct_after same (E ++ l) more) (sym (known-item E ks x there)))
      (λ none.
      let rest = distinct_after same (E ++ x ∷ []) ks in
      new-item E (ks ++ more) x none
      ∙ ap (λ l. x ∷ l) (new-both (E ++ x ∷ []) ks more)
      ∙ ap (λ l. x ∷ (rest ++ distinct_after same l more)) (append_assoc E (x ∷ []) rest)
      ∙ ap (λ l. l ++ distinct_after same (E ++ l) more) (sym (new-item E ks x none)))

  or-more : (a b c : Bool) → (a ≡ true → b ≡ true) → (a || c) ≡ true → (b || c) ≡ true
  or-more true b c h is = ap (λ d. d || c) (h refl)
  or-more false true c h is = refl
  or-more false false c h is = is

  -- all that came in one list came in another
  abbrev CameIn : List C → List C → Type 0
  CameIn E F = (k : C) → among k E ≡ true → among k F ≡ true

  came-front : (E l : List C) → CameIn E (E ++ l)
  came-front E l k there = list_any-append (same k) E l ∙ ap (λ b. b || among k l) there

  came-both : (E F : List C) (x : C) → CameIn E F → CameIn (E ++ x ∷ []) (F ++ x ∷ [])
  came-both E F x within k there =
      list_any-append (same k) F (x ∷ []) ∙ or-more (among k E) (among k F) (same k x || false) (within k) (sym (list_any-append (same k) E (x ∷ [])) ∙ there)

  abbrev is_new : List C → C → Bool
  is_new came k = not (among k came)

  -- what came makes no difference
  without-known : (came E ks more : List C) → CameIn came E → distinct_after same E (ks ++ more) ≡ distinct_after same E (filter (is_new came) ks ++ more)
  without-known came E [] more within = refl
  without-known came E (x ∷ ks) more within =
      either (among x came)
      (λ there.
      let out : filter (is_new came) (x ∷ ks) ≡ filter (is_new came) ks = ap (λ b. cond (not b) (x ∷ filter (is_new came) ks) (filter (is_new came) ks)) there in
      known-item E (ks ++ more) x (within x there) ∙ without-known came E ks more within ∙ ap (λ l. distinct_after same E (l ++ more)) (sym out))
      (λ none.
      let kept : filter (is_new came) (x ∷ ks) ≡ x ∷ filter (is_new came) ks = ap (λ b. cond (not b) (x ∷ filter (is_new came) ks) (filter (is_new came) ks)) none in
      ap (λ l. cond (among x E) l (x ∷ l)) (without-known came (E ++ x ∷ []) ks more (λ k there. came-front E (x ∷ []) k (within k there)))
      ∙ ap (λ l. distinct_after same E (l ++ more)) (sym kept))

  -- nor does what repeats
  without-repeats : (seen E ks more : List C) → CameIn seen E → distinct_after same E (ks ++ more) ≡ distinct_after same E (distinct_after same seen ks ++ more)
  without-repeats seen E [] more within = refl
  without-repeats seen E (x ∷ ks) more within =
      either (among x seen)
      (λ there.
      known-item E (ks ++ more) x (within x there) ∙ without-repeats seen E ks more within ∙ ap (λ l. distinct_after same E (l ++ more)) (sym (known-item seen ks x there)))
      (λ none.
      ap (λ l. cond (among x E) l (x ∷ l)) (without-repeats (seen ++ x ∷ []) (E ++ x ∷ []) ks more (came-both seen E x within))
      ∙ ap (λ l. distinct_after same E (l ++ more)) (sym (new-item seen ks x none)))

  repeats-thinned : (came ks : List C) → IsThinned None (distinct_after same came) ks (distinct same ks)
  repeats-thinned came ks = λ before more.
      let E = came ++ distinct_after same came before in
      new-both came before (ks ++ more)
      ∙ ap (λ l. distinct_after same came before ++ l) (without-repeats [] E ks more (λ k there. absurd cc))
      ∙ sym (new-both came before (distinct same ks ++ more))

  known-thinned : (came ks : List C) → IsThinned None (distinct_after same came) ks (filter (is_new came) ks)
  known-thinned came ks = λ before more.
      let E = came ++ distinct_after same came before in
      new-both came before (ks ++ more)
      ∙ ap (λ l. distinct_after same came before ++ l) (without-known came E ks more (came-front came (distinct_after same came before)))
      ∙ sym (new-both came before (filter (is_new came) ks ++ more))

  module _ {T : Type 0} (content : T → C) (eq : T → T → Bool) (alike : (x y : T) → eq x y ≡ same (content x) (content y)) where
    among-contents : (x : T) (xs : List T) → list_any (eq x) xs ≡ among (content x) (map content xs)
    among-contents x [] = refl
    among-contents x (y ∷ ys) = ap₂ (λ b c. b || c) (alike x y) (among-contents x ys)

    both-ways : (a b : Bool) (x : T) (rest : List T) (others : List C) → a ≡ b → map content rest ≡ others
        → map content (cond (not a) (x ∷ rest) rest) ≡ cond (not b) (content x ∷ others) others
    both-ways true true x rest others e same_rest = same_rest
    both-ways false false x rest others e same_rest = ap (λ l. content x ∷ l) same_rest
    both-ways true false x rest others e same_rest = absurd cc
    both-ways false true x rest others e same_rest = absurd cc

    new-contents : (came xs : List T) → map content (filter (λ x. not (list_any (eq x) came)) xs) ≡ filter (is_new (map content came)) (map content xs)
    new-contents came [] = refl
    new-contents came (x ∷ xs) =
        both-ways (list_any (eq x) came) (among (content x) (map content came)) x (filter (λ y. not (list_any (eq y) came)) xs) (filter (is_new (map content came)) (map content xs)) (among-contents x came) (new-contents came xs)

    came-thinned : (came xs kept : List T) → kept ≡ filter (λ x. not (list_any (eq x) came)) xs → IsThinned None (distinct_after same (map content came)) (map content xs) (map content kept)
    came-thinned came xs kept is = λ before more.
        known-thinned (map content came) (map content xs) before more
        ∙ ap (λ l. distinct_after same (map content came) (before ++ (l ++ more))) (sym (ap (map content) is ∙ new-contents came xs))

    -- of a list what didn't come, and of that the first ones
    pub new-thinned : {V E : Type 0} (list : V → List T) (came xs middle : List T) (r : Result V E) → middle ≡ filter (λ x. not (list_any (eq x) came)) xs
        → IfOk r (λ v. map content (list v) ≡ distinct same (map content middle))
        → IfOk r (λ v. IsThinned None (distinct_after same (map content came)) (map content xs) (map content (list v)))
    new-thinned list came xs middle (Err e) is first = tt
    new-thinned list came xs middle (Ok v) is first = λ before more.
        came-thinned came xs middle is before more
        ∙ repeats-thinned (map content came) (map content middle) before more
        ∙ ap (λ l. distinct_after same (map content came) (before ++ (l ++ more))) (sym first)

    -- a set keeps what it had, and behind it what is new
    kept-more : (old xs : List T) → map content (fold (insert_key eq) old xs) ≡ map content old ++ distinct_after same (map content old) (map content xs)
    kept-more old [] = sym (append-nil (map content old))
    kept-more old (x ∷ xs) =
        kept-more (insert_key eq old x) xs
        ∙ either (among (content x) (map content old))
        (λ there.
        let stays : insert_key eq old x ≡ old = ap (λ b. cond b old (old ++ x ∷ [])) (among-contents x old ∙ there) in
        ap (λ ks. map content ks ++ distinct_after same (map content ks) (map content xs)) stays
        ∙ ap (λ l. map content old ++ l) (sym (known-item (map content old) (map content xs) (content x) there)))
        (λ none.
        let grows : map content (insert_key eq old x) ≡ map content old ++ content x ∷ [] =
        ap (λ b. map content (cond b old (old ++ x ∷ []))) (among-contents x old ∙ none) ∙ map-append content old (x ∷ []) in
        ap (λ l. l ++ distinct_after same l (map content xs)) grows
        ∙ append_assoc (map content old) (content x ∷ []) (distinct_after same (map content old ++ content x ∷ []) (map content xs))
        ∙ ap (λ l. map content old ++ l) (sym (new-item (map content old) (map content xs) (content x) none)))

    pub kept-distinct : (xs : List T) → map content (fold (insert_key eq) [] xs) ≡ distinct same (map content xs)
    kept-distinct xs = kept-more [] xs

    -- what a set had stays
    pub known-within : (old now xs : List T) → now ≡ fold (insert_key eq) old xs → length old ≤ length now
    known-within old now xs all =
        let new = distinct_after same (map content old) (map content xs) in
        let joined : length (map content now) ≡ length (map content old ++ new) = ap length (ap (map content) all ∙ kept-more old xs) in
        omega (arith, joined, length-append (map content old) new, length-map old content, length-map now content)

    drop-front : (front rest : List C) → drop (length front) (front ++ rest) ≡ rest
    drop-front [] rest = refl
    drop-front (x ∷ front) rest = drop-front front rest

    -- what stands in the set behind what it had is what is new
    pub distinct-goes_on : (old now xs : List T) (kept more : List C) → now ≡ fold (insert_key eq) old xs → kept ≡ map content (drop (length old) now)
        → distinct_after same (map content old) (map content xs ++ more) ≡ kept ++ distinct_after same (map content now) more
    distinct-goes_on old now xs kept more all behind =
        let E = map content old in
        let new = distinct_after same E (map content xs) in
        let joined : map content now ≡ E ++ new = ap (map content) all ∙ kept-more old xs in
        let is : kept ≡ new =
        behind
        ∙ sym (drop-map content (length old) now)
        ∙ ap (drop (length old)) joined
        ∙ ap (λ n. drop n (E ++ new)) (sym (length-map old content))
        ∙ drop-front E new in
        new-both E (map content xs) more
        ∙ ap (λ l. l ++ distinct_after same (E ++ new) more) (sym is)
        ∙ ap (λ l. kept ++ distinct_after same l more) (sym joined)
