-- Parts one behind another.
use Rattle.std.specs.Prelude.{◌≡◌, ◌≤◌, ◌++◌, ◌∷◌, [], ℕ, List, length, refl}
use Rattle.std.proofs.Common.{subst, ap, arith, length-append, le_refl}
use Rattle.placed_containers.specs.Parts.{Joins}

-- what holds of the lists of two neighbours, the one behind the other, holds of that between the outer places
pub between-joined : {X : Type 0} (between : ℕ → ℕ → List X) → Joins between → (holds : List X → Type 0) (p q r : ℕ) → p ≤ q → q ≤ r
    → holds (between p q ++ between q r) → holds (between p r)
between-joined between joins holds p q r first second both = subst holds (joins p q r first second) both

no-twice : {X : Type 0} (l : List X) → l ++ l ≡ l → l ≡ []
no-twice [] h = refl
no-twice (x ∷ l) h = absurd (omega (arith, ap length h, length-append (x ∷ l) (x ∷ l)))

-- there is nothing between a place and itself
pub between-none : {X : Type 0} (between : ℕ → ℕ → List X) → Joins between → (p : ℕ) → between p p ≡ []
between-none between joins p = no-twice (between p p) (joins p p p (le_refl p) (le_refl p))
