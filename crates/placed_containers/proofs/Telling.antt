-- Lines that tell of parts, in one order.
use Rattle.std.specs.Prelude.{◌≡◌, ◌⊎◌, ℕ, suc, List, [], ◌∷◌, ◌++◌, All, length, refl}
use Rattle.std.specs.List.{AllZip}
use Rattle.std.proofs.Common.{⊎_elim, sym, ◌∙◌, subst, ap}
use Rattle.std.proofs.lemmas.List.Elements.{All-head, All-tail}
use Rattle.placed_containers.specs.declared.pieces.Part.{Part}
use Rattle.placed_containers.specs.Parts.{part_form, IsAt, Told}
use Rattle.placed_containers.specs.Ways.{begin_of, end_of, HasPart}
use Rattle.placed_containers.proofs.Anys.{any-none, any-here, any-there, any-cases}
use Rattle.placed_containers.proofs.PartForms.{part_form-from, part_form-to, some-same}

pub zip-push : {X Y : Type 0} (R : X → Y → Type 0) (xs : List X) (ys : List Y) (x : X) (y : Y) → AllZip R xs ys → R x y → AllZip R (xs ++ x ∷ []) (ys ++ y ∷ [])
zip-push R [] [] x y h r = (r, tt)
zip-push R [] (b ∷ ys) x y h r = absurd h
zip-push R (a ∷ xs) [] x y h r = absurd h
zip-push R (a ∷ xs) (b ∷ ys) x y h r = (h.0, zip-push R xs ys x y h.1 r)

pub zip-some : {X Y : Type 0} (R : X → Y → Type 0) (xs : List X) (ys : List Y) → AllZip R xs ys → length xs ≡ length ys
zip-some R [] [] h = refl
zip-some R [] (b ∷ ys) h = absurd h
zip-some R (a ∷ xs) [] h = absurd h
zip-some R (a ∷ xs) (b ∷ ys) h = ap suc (zip-some R xs ys h.1)

module _ {A L : Type 0} (bytes : L → List ℕ) (job : List ℕ) (n : ℕ) where
  abbrev Tells : Part A → L → Type 0
  Tells part line = IsAt job (begin_of part) (end_of part) part.places.of (bytes line)

  -- what a line tells is where its part is
  pub told-has : (parts : List (Part A)) (lines : List L) → AllZip Tells parts lines → (p q : ℕ) → Told bytes job n lines p q → HasPart parts p q
  told-has [] [] h p q t = absurd (any-none (λ line. IsAt job p q n (bytes line)) t)
  told-has [] (y ∷ lines) h p q t = absurd h
  told-has (x ∷ parts) [] h p q t = absurd h
  told-has (x ∷ parts) (y ∷ lines) h p q t =
      ⊎_elim
      (λ e. let same : part_form job (begin_of x) (end_of x) x.places.of h.0.0 ≡ part_form job p q n e.0 = some-same (sym h.0.1 ∙ e.1) in
      any-here (λ part. (begin_of part ≡ p) × (end_of part ≡ q)) x parts (part_form-from same, part_form-to same))
      (λ a. any-there (λ part. (begin_of part ≡ p) × (end_of part ≡ q)) x parts (told-has parts lines h.1 p q a))
      (any-cases (λ line. IsAt job p q n (bytes line)) y lines t)

  pub has-told : (parts : List (Part A)) (lines : List L) → AllZip Tells parts lines → All (λ part. part.places.of ≡ n) parts → (p q : ℕ) → HasPart parts p q → Told bytes job n lines p q
  has-told [] [] h whole p q t = absurd (any-none (λ part. (begin_of part ≡ p) × (end_of part ≡ q)) t)
  has-told [] (y ∷ lines) h whole p q t = absurd h
  has-told (x ∷ parts) [] h whole p q t = absurd h
  has-told (x ∷ parts) (y ∷ lines) h whole p q t =
      let of : x.places.of ≡ n = All-head (λ part. part.places.of ≡ n) x parts whole in
      ⊎_elim
      (λ e. any-here (λ line. IsAt job p q n (bytes line)) y lines
      (subst (λ m. IsAt job p q m (bytes y)) of (subst (λ m. IsAt job p m x.places.of (bytes y)) e.1 (subst (λ m. IsAt job m (end_of x) x.places.of (bytes y)) e.0 h.0))))
      (λ a. any-there (λ line. IsAt job p q n (bytes line)) y lines (has-told parts lines h.1 (All-tail (λ part. part.places.of ≡ n) x parts whole) p q a))
      (any-cases (λ part. (begin_of part ≡ p) × (end_of part ≡ q)) x parts t)
