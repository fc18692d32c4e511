-- Sets that are read: the members of an array, where each stands once.
use Rattle.std.specs.Prelude.{◌≡◌, ◌≤◌, suc, Bool, false, List, [], ◌∷◌, ◌++◌, length, refl}
use Rattle.std.specs.List.{list_any}
use Rattle.std.proofs.Common.{ap, subst, sym, arith, append_assoc}
use Rattle.spliterator.specs.Values.{DecidesEquality}
use Rattle.stages.specs.Tests.{either}
use Rattle.stages.specs.Distinct.{distinct_after, AllApart}
use Rattle.wire_form.proofs.EntriesRead.{apart-before}

module _ {K : Type 0} (same : K → K → Bool) where
  fewer : (earlier ks : List K) → length (distinct_after same earlier ks) ≤ length ks
  fewer earlier [] = omega arith
  fewer earlier (k ∷ ks) =
      let rest = fewer (earlier ++ k ∷ []) ks in
      either (list_any (same k) earlier)
      (λ t. simp t (omega (arith, rest)))
      (λ t. simp t (omega (arith, rest)))

  -- where none is left out, all are there
  pub distinct-all : (earlier ks : List K) → length ks ≤ length (distinct_after same earlier ks) → distinct_after same earlier ks ≡ ks
  distinct-all earlier [] h = refl
  distinct-all earlier (k ∷ ks) h =
      let rest = fewer (earlier ++ k ∷ []) ks in
      either (list_any (same k) earlier)
      (λ t. let short : suc (length ks) ≤ length (distinct_after same (earlier ++ k ∷ []) ks) = simp t at h in absurd (omega (arith, rest, short)))
      (λ t.
      let more : suc (length ks) ≤ suc (length (distinct_after same (earlier ++ k ∷ []) ks)) = simp t at h in
      simp t (ap (λ l. k ∷ l) (distinct-all (earlier ++ k ∷ []) ks (omega (arith, more)))))

  -- where no two are one, all are there
  pub distinct-of_apart : DecidesEquality same → (earlier ks : List K) → AllApart same (earlier ++ ks) → distinct_after same earlier ks ≡ ks
  distinct-of_apart decides earlier [] h = refl
  distinct-of_apart decides earlier (k ∷ ks) h =
      let new : list_any (same k) earlier ≡ false = apart-before same decides earlier k ks h in
      simp new (ap (λ l. k ∷ l) (distinct-of_apart decides (earlier ++ k ∷ []) ks (subst (AllApart same) (sym (append_assoc earlier (k ∷ []) ks)) h)))
