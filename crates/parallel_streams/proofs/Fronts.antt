-- What a sink took of a stream's front.
use Rattle.std.specs.Prelude.{◌≡◌, List, Option, Some, None, IfSome, IfNone}
use Rattle.std.proofs.Common.{subst}
use Rattle.leaf_reading.specs.Stretches.{TakesOn}

module _ {K X P : Type 0} (before after : K) (takes : K → List X → K → Type 0) (images : List X → List X) (all : List X) where
  pub took-all : (rest : Option P) → rest ≡ None → IfNone rest (takes before (images all) after) → takes before (images all) after
  took-all rest is took = subst (λ o. IfNone o (takes before (images all) after)) is took

  pub took-front : (left : P → List X) (rest : Option P) (p : P) → rest ≡ Some p
      → IfSome rest (λ q. TakesOn takes images all before (left q) after) → TakesOn takes images all before (left p) after
  took-front left rest p is took = subst (λ o. IfSome o (λ q. TakesOn takes images all before (left q) after)) is took
