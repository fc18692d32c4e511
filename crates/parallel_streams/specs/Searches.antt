-- What a search for an item that counts finds.
use Rattle.std.specs.Prelude.{◌≡◌, ◌++◌, ◌⊎◌, ℕ, Bool, true, false, List}
use Rattle.std.proofs.Common.{subst, sym, ◌∙◌}
use Rattle.leaf_reading.specs.KeeperLaws.{Offers, offers-both}
use Rattle.parallel_streams.specs.Terminals.{any_meets}

-- A hit: the container has a front of the list, in which some item counts.
pub record IsHit {T A : Type 0} (counted : T → Bool) (made : List T → A → Type 0) (whole : List T) (acc : A) : Type 0 where
  pub front : List T
  pub more : List T
  pub are : whole ≡ front ++ more
  pub some : any_meets counted front ≡ true
  pub kept : made front acc

-- the first n items of the source decide, or some item counts of what comes of them
abbrev pub DecidesOrHits : {T : Type 0} → (ℕ → Type 0) → (T → Bool) → (ℕ → List T) → ℕ → Type 0
DecidesOrHits decided counted front n = decided n ⊎ (any_meets counted (front n) ≡ true)

-- a container with a hit; or one of the whole list, of which no item counts
abbrev pub IsFound : {T A : Type 0} → (T → Bool) → (List T → A → Type 0) → List T → A → Bool → Type 0
IsFound counted made whole acc false = made whole acc × (any_meets counted whole ≡ false)
IsFound counted made whole acc true = IsHit counted made whole acc

module _ {D C : Type 0} where
  -- what was offered between two states of a search, whose demand and collector stay
  pub seeks-both : {T A : Type 0} (keeps : D → C → List T → A → Type 0) {d e h : D} {f g i : C} (a b c : A) (xs ys : List T)
      → (e ≡ d) × (g ≡ f) × Offers (keeps d f) a xs b → (h ≡ e) × (i ≡ g) × Offers (keeps e g) b ys c
      → (h ≡ d) × (i ≡ f) × Offers (keeps d f) a (xs ++ ys) c
  seeks-both keeps {d} {e} {h} {f} {g} {i} a b c xs ys p q =
      let P : D → Type 0 = λ z. Offers (keeps z f) b ys c in
      let Q : C → Type 0 = λ z. Offers (keeps e z) b ys c in
      (q.0 ∙ p.0, q.1 ∙ p.1, offers-both (keeps d f) a b c xs ys p.2 (subst P p.0 (subst Q p.1 q.2)))

  pub seeks-ready : (ready : D → C → Type 0) {d e : D} {f g : C} → e ≡ d → g ≡ f → ready d f → ready e g
  seeks-ready ready {d} {e} {f} {g} h j r =
      let P : D → Type 0 = λ z. ready z g in
      subst P (sym h) (subst (ready d) (sym j) r)
