-- What places keep.
use Rattle.std.specs.Prelude.{◌≡◌, ◌≤◌, Bool, ◌+◌, ℕ, List, [], ◌∷◌, ◌++◌, map, take, length, fold, refl}
use Rattle.std.proofs.Common.{zero, suc, sym, ap, ap₂, ◌∙◌, append_assoc, append-nil, arith}
use Rattle.std.proofs.lemmas.List.{map-append}
use Rattle.stages.specs.Tests.{either}
use Rattle.collectors.specs.Laws.{CollectorLaws}
use Rattle.derived_collectors.specs.FirstPlaces.{places_from, places, place_add, place_merge}

take-map : {C D : Type 0} (f : C → D) (n : ℕ) (l : List C) → map f (take n l) ≡ take n (map f l)
take-map f zero l = refl
take-map f (suc n) [] = refl
take-map f (suc n) (x ∷ l) = ap (λ t. f x ∷ t) (take-map f n l)

take-none : {C : Type 0} (n : ℕ) → take {A = C} n [] ≡ []
take-none zero = refl
take-none (suc n) = refl

-- a beginning needs no more than a longer beginning, of what comes first ..
take-before : {C : Type 0} (n k : ℕ) (u v : List C) → n ≤ k → take n (take k u ++ v) ≡ take n (u ++ v)
take-before zero k u v h = refl
take-before (suc n) zero u v h = absurd (omega arith)
take-before (suc n) (suc k) [] v h = refl
take-before (suc n) (suc k) (x ∷ u) v h = ap (λ t. x ∷ t) (take-before n k u v (omega arith))

-- .. and of what follows
take-behind : {C : Type 0} (n k : ℕ) (u v : List C) → n ≤ k → take n (u ++ take k v) ≡ take n (u ++ v)
take-behind zero k u v h = refl
take-behind (suc n) zero u v h = absurd (omega arith)
take-behind (suc n) (suc k) [] [] h = refl
take-behind (suc n) (suc k) [] (x ∷ v) h = ap (λ t. x ∷ t) (take-behind n k [] v (omega arith))
take-behind (suc n) (suc k) (x ∷ u) v h = ap (λ t. x ∷ t) (take-behind n (suc k) u v (omega arith))

pub take-parts : {C : Type 0} (n : ℕ) (u v : List C) → take n (take n u ++ take n v) ≡ take n (u ++ v)
take-parts n u v = take-before n n u (take n v) (omega arith) ∙ take-behind n n u v (omega arith)

pub take-first : {C : Type 0} (n : ℕ) (u v : List C) → take n (take n u ++ v) ≡ take n (u ++ v)
take-first n u v = take-before n n u v (omega arith)

-- the places that follow so many items, put behind those of a beginning
pub take-later : (n before : ℕ) (u v : List ℕ)
    → take n (take n u ++ map (λ place. before + place) (take n v)) ≡ take n (u ++ map (λ place. before + place) v)
take-later n before u v =
    ap (λ t. take n (take n u ++ t)) (take-map (λ place. before + place) n v) ∙ take-parts n u (map (λ place. before + place) v)

take-again : (n : ℕ) (u : List ℕ) → take n (take n u) ≡ take n u
take-again n u = ap (take n) (sym (append-nil (take n u))) ∙ take-first n u [] ∙ ap (take n) (append-nil u)

-- .. and cut
pub take-put : (n before : ℕ) (u v all cut : List ℕ) → all ≡ u ++ map (λ place. before + place) v → cut ≡ take n all
    → take n cut ≡ take n (take n u ++ map (λ place. before + place) (take n v))
take-put n before u v all cut put made = ap (take n) made ∙ take-again n all ∙ ap (take n) put ∙ sym (take-later n before u v)

module _ {X : Type 0} (test : X → Bool) where
  places-later : (before place : ℕ) (l : List X) → map (λ i. before + i) (places_from test place l) ≡ places_from test (before + place) l
  places-later before place [] = refl
  places-later before place (x ∷ l) =
      let next : before + (place + 1) ≡ (before + place) + 1 = omega arith in
      let rest = places-later before (place + 1) l ∙ ap (λ i. places_from test i l) next in
      either (test x)
      (λ h. simp h (ap (λ t. (before + place) ∷ t) rest))
      (λ h. simp h rest)

  places-one : (place : ℕ) (x : X) (l : List X) → places_from test place (x ∷ []) ++ places_from test (place + 1) l ≡ places_from test place (x ∷ l)
  places-one place x l = either (test x) (λ h. simp h refl) (λ h. simp h refl)

  module _ (number : ℕ) where
    placed_from : (place : ℕ) (done : List ℕ) (l : List X)
        → fold (place_add test number) (place, take number done) l ≡ (place + length l, take number (done ++ places_from test place l))
    placed_from place done [] =
        let same : place ≡ place + 0 = omega arith in
        ap₂ (λ i t. (i, take number t)) same (sym (append-nil done))
    placed_from place done (x ∷ l) =
        let one = places_from test place (x ∷ []) in
        let next : (place + 1) + length l ≡ place + suc (length l) = omega arith in
        ap (λ t. fold (place_add test number) (place + 1, t) l) (take-first number done one)
        ∙ placed_from (place + 1) (done ++ one) l
        ∙ ap₂ (λ i t. (i, take number t)) next
        (append_assoc done one (places_from test (place + 1) l) ∙ ap (λ t. done ++ t) (places-one place x l))

    -- the container of a list has its length and its first places
    pub placed : (l : List X) → fold (place_add test number) (0, []) l ≡ (length l, take number (places test l))
    placed l =
        let whole : 0 + length l ≡ length l = omega arith in
        ap (λ t. fold (place_add test number) (0, t) l) (sym (take-none number))
        ∙ placed_from 0 [] l
        ∙ ap (λ i. (i, take number (places test l))) whole

    pub place_laws : (is_value : X → Type 0) → CollectorLaws is_value (0, []) (place_add test number) (place_merge number)
    place_laws is_value = record {
      identity = λ l v.
          let same : length l + 0 ≡ length l = omega arith in
          ap (λ a. place_merge number a (0, [])) (placed l)
          ∙ ap₂ (λ i t. (i, t)) same
          (take-first number (places test l) [] ∙ ap (take number) (append-nil (places test l)))
          ∙ sym (placed l);
      associativity = λ l r x v w u.
          let one = places_from test (length r) (x ∷ []) in
          let later = map (λ place. length l + place) in
          let sum : length l + (length r + 1) ≡ (length l + length r) + 1 = omega arith in
          ap₂ (λ a b. place_merge number a (place_add test number b x)) (placed l) (placed r)
          ∙ ap₂ (λ i t. (i, t)) sum
          (ap (λ t. take number (take number (places test l) ++ later t)) (take-first number (places test r) one)
          ∙ take-later number (length l) (places test l) (places test r ++ one)
          ∙ ap (λ t. take number (places test l ++ t)) (map-append (λ place. length l + place) (places test r) one)
          ∙ ap (take number) (sym (append_assoc (places test l) (later (places test r)) (later one)))
          ∙ ap (λ t. take number ((places test l ++ later (places test r)) ++ t)) (places-later (length l) (length r) (x ∷ []))
          ∙ sym (take-first number (places test l ++ later (places test r)) (places_from test (length l + length r) (x ∷ [])))
          ∙ ap (λ t. take number (t ++ places_from test (length l + length r) (x ∷ []))) (sym (take-later number (length l) (places test l) (places test r))))
          ∙ sym (ap₂ (λ a b. place_add test number (place_merge number a b) x) (placed l) (placed r));
    }
