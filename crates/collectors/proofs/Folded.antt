-- What is folded of a list's front, and of one item more.
use Rattle.std.specs.Prelude.{◌≡◌, ◌<◌, ◌≤◌, ◌+◌, ℕ, List, [], ◌∷◌, ◌++◌, All, fold, length, map, take}
use Rattle.std.proofs.Common.{suc, slice_index_or, sym, ap, ◌∙◌, append_assoc, arith, subst}
use Rattle.std.proofs.Math.Seq.{take-suc}
use Rattle.std.proofs.lemmas.List.{map-append, take_all}
use Rattle.std.proofs.lemmas.List.Elements.{All-push}
use Rattle.std.proofs.lemmas.List.Sums.{fold_push}

module _ {T C : Type 0} (content : T → C) where
  mapped-next : (l : List T) (i : ℕ) (item : T) → i < length l → item ≡ slice_index_or l i item
      → map content (take (i + 1) l) ≡ map content (take i l) ++ content item ∷ []
  mapped-next l i item within is =
      let next : i + 1 ≡ suc i = omega arith in
      let taken : take (i + 1) l ≡ take i l ++ item ∷ [] =
      ap (λ n. take n l) next ∙ take-suc l i item within ∙ ap (λ x. take i l ++ x ∷ []) (sym is) in
      ap (map content) taken ∙ map-append content (take i l) (item ∷ [])

  pub folded-next : {A : Type 0} (add : A → C → A) (first before after : A) (l : List T) (i : ℕ) (item : T) → i < length l → item ≡ slice_index_or l i item
      → before ≡ fold add first (map content (take i l)) → after ≡ add before (content item)
      → after ≡ fold add first (map content (take (i + 1) l))
  folded-next add first before after l i item within is so_far added =
      added
      ∙ ap (λ a. add a (content item)) so_far
      ∙ sym (fold_push add first (map content (take i l)) (content item))
      ∙ ap (fold add first) (sym (mapped-next l i item within is))

  pub folded-all : {A : Type 0} (add : A → C → A) (first last : A) (l : List T) (i : ℕ) → length l ≤ i
      → last ≡ fold add first (map content (take i l)) → last ≡ fold add first (map content l)
  folded-all add first last l i ended folded = folded ∙ ap (λ m. fold add first (map content m)) (take_all i l ended)

  pub all-next : (P : C → Type 0) (l : List T) (i : ℕ) (item : T) → i < length l → item ≡ slice_index_or l i item
      → All P (map content (take i l)) → P (content item) → All P (map content (take (i + 1) l))
  all-next P l i item within is all one =
      subst (All P) (sym (mapped-next l i item within is)) (All-push P (map content (take i l)) (content item) all one)

  pub appended-next : (front : List C) (l : List T) (i : ℕ) (item : T) → i < length l → item ≡ slice_index_or l i item
      → (front ++ map content (take i l)) ++ content item ∷ [] ≡ front ++ map content (take (i + 1) l)
  appended-next front l i item within is =
      append_assoc front (map content (take i l)) (content item ∷ []) ∙ ap (λ m. front ++ m) (sym (mapped-next l i item within is))

  pub all-whole : (P : C → Type 0) (l : List T) (i : ℕ) → length l ≤ i → All P (map content (take i l)) → All P (map content l)
  all-whole P l i ended all = subst (λ m. All P (map content m)) (take_all i l ended) all
