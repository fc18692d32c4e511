-- A list whose items are written one after another.
use Rattle.std.proofs.Common.{◌≡◌, ◌<◌, ◌≤◌, ◌+◌, ℕ, List, [], ◌∷◌, ◌++◌, length, map, take, drop, get_or, set, ap, ap₂, sym, ◌∙◌, arith}
use Rattle.std.proofs.lemmas.List.{drop_more, take_more, take_more_set, drop-set-lt, length-drop, map-append, take_all}

head-same : {A : Type 0} {x y : A} {xs ys : List A} → (x ∷ xs) ≡ (y ∷ ys) → x ≡ y
head-same e = cc

tail-same : {A : Type 0} {x y : A} {xs ys : List A} → (x ∷ xs) ≡ (y ∷ ys) → xs ≡ ys
tail-same e = cc

module _ {C D : Type 0} (f : C → D) (j : D → D) where
  -- one item more is written
  pub written-next : (all now : List C) (i : ℕ) (x y : C) → i < length now → x ≡ get_or now i x
      → map f (take i now) ≡ map j (map f (take i all)) → drop i now ≡ drop i all → f y ≡ j (f x)
      → (map f (take (i + 1) (set now i y)) ≡ map j (map f (take (i + 1) all))) × (drop (i + 1) (set now i y) ≡ drop (i + 1) all)
  written-next all now i x y within is before behind new =
      let here : drop i now ≡ x ∷ drop (i + 1) now = drop_more now i x within ∙ ap (λ z. z ∷ drop (i + 1) now) (sym is) in
      let long : length (drop i all) ≡ length (x ∷ drop (i + 1) now) = ap length (sym behind ∙ here) in
      let some : i < length all = omega (arith, length-drop i all, long) in
      let there = drop_more all i x some in
      let same = sym here ∙ behind ∙ there in (
        ap (map f) (take_more_set now i y within) ∙ map-append f (take i now) (y ∷ [])
            ∙ ap₂ (λ (l : List D) (z : D). l ++ z ∷ []) before (new ∙ ap (λ z. j (f z)) (head-same same))
            ∙ sym (ap (λ l. map j (map f l)) (take_more all i x some) ∙ ap (map j) (map-append f (take i all) (get_or all i x ∷ []))
            ∙ map-append j (map f (take i all)) (f (get_or all i x) ∷ [])),
        drop-set-lt (i + 1) now i y (omega arith) ∙ tail-same same,
      )

  -- all items are written
  pub written-all : (all now : List C) (i : ℕ) → length now ≤ i → length now ≡ length all
      → map f (take i now) ≡ map j (map f (take i all)) → map f now ≡ map j (map f all)
  written-all all now i end long done =
      ap (map f) (sym (take_all i now end)) ∙ done ∙ ap (λ l. map j (map f l)) (take_all i all (omega arith))
