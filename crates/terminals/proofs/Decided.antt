-- What a front that is enough gives, the whole list gives.
use Rattle.std.specs.Prelude.{◌≡◌, ◌≤◌, ◌++◌, ℕ, List, Bool, true, false, nat_lt, count_by, Result, IfOk}
use Rattle.std.proofs.Common.{sym, subst, ◌∙◌, arith}
use Rattle.std.proofs.lemmas.Bool.Decides.{nat_tests}
use Rattle.std.proofs.lemmas.Result.{MatchResult-weaker}
use Rattle.parallel_streams.specs.Meeting.{any-by-count}
use Rattle.parallel_streams.specs.Searches.{IsFound}
use Rattle.parallel_streams.specs.Terminals.{any_meets}

more-than-none : (n : ℕ) → nat_lt 0 n ≡ true → 1 ≤ n
more-than-none n some = grind (arith, nat_tests)

module _ {X A O E : Type 0} (decisive : X → Bool) (made : List X → A → Type 0) (Gives : List X → O → Type 0)
    (law : (front more : List X) (r : O) → 1 ≤ count_by decisive front → Gives front r → Gives (front ++ more) r) where
  pub found-decided : (counted : X → Bool) → counted ≡ decisive → (whole : List X) (acc : A) (met : Bool) → IsFound counted made whole acc met
      → (result : Result O E) → ((l : List X) → made l acc → IfOk result (Gives l)) → IfOk result (Gives whole)
  found-decided counted same whole acc false found result finished = finished whole found.0
  found-decided counted same whole acc true found result finished =
      let some : any_meets decisive found.front ≡ true = subst (λ (p : X → Bool). any_meets p found.front ≡ true) same found.some in
      let enough = more-than-none (count_by decisive found.front) (sym (any-by-count decisive found.front) ∙ some) in
      MatchResult-weaker result (finished found.front found.kept)
      (λ r given. subst (λ l. Gives l r) (sym found.are) (law found.front found.more r enough given))
      (λ e told. told)
