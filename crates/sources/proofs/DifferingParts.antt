-- Of keys that differ, a front differ, and so do those that follow it.
use Rattle.std.specs.Prelude.{◌≡◌, ℕ, zero, suc, Bool, false, List, [], ◌∷◌, take, drop}
use Rattle.std.specs.List.{AllByRecursion, IsDistinct}
use Rattle.std.proofs.Common.{sym, subst}
use Rattle.std.proofs.lemmas.Map.Keys.{IsDistinct-tail}

all-take : {K : Type 0} (P : K → Type 0) (n : ℕ) (ks : List K) → AllByRecursion P ks → AllByRecursion P (take n ks)
all-take P zero ks h = tt
all-take P (suc n) [] h = tt
all-take P (suc n) (k ∷ ks) h = (h.0, all-take P n ks h.1)

IsDistinct-take : {K : Type 0} (eq : K → K → Bool) (n : ℕ) (ks : List K) → IsDistinct eq ks → IsDistinct eq (take n ks)
unfolding IsDistinct
IsDistinct-take eq zero ks h = tt
IsDistinct-take eq (suc n) [] h = tt
IsDistinct-take eq (suc n) (k ∷ ks) h = (all-take (λ y. eq k y ≡ false) n ks h.0, IsDistinct-take eq n ks h.1)

IsDistinct-drop : {K : Type 0} (eq : K → K → Bool) (n : ℕ) (ks : List K) → IsDistinct eq ks → IsDistinct eq (drop n ks)
unfolding IsDistinct
IsDistinct-drop eq zero ks h = h
IsDistinct-drop eq (suc n) [] h = tt
IsDistinct-drop eq (suc n) (k ∷ ks) h = IsDistinct-drop eq n ks h.1

pub differ-front : {K : Type 0} (eq : K → K → Bool) (n : ℕ) (ks front : List K) → front ≡ take n ks → IsDistinct eq ks → IsDistinct eq front
differ-front eq n ks front is h = subst (IsDistinct eq) (sym is) (IsDistinct-take eq n ks h)

pub differ-rest : {K : Type 0} (eq : K → K → Bool) (n : ℕ) (ks rest : List K) → rest ≡ drop n ks → IsDistinct eq ks → IsDistinct eq rest
differ-rest eq n ks rest is h = subst (IsDistinct eq) (sym is) (IsDistinct-drop eq n ks h)

pub differ-tail : {K : Type 0} (eq : K → K → Bool) (ks : List K) (k : K) (rest : List K) → ks ≡ k ∷ rest → IsDistinct eq ks → IsDistinct eq rest
differ-tail eq ks k rest is h = IsDistinct-tail eq k rest (subst (IsDistinct eq) is h)
