-- Operations that look at many items, one behind another.
use Rattle.std.specs.Prelude.{◌≡◌, ◌++◌, ℕ, Bool, List, flat_map, Option, Result, Ok, Err, IfOk}
use Rattle.std.proofs.Common.{ap, sym, ◌∙◌}
use Rattle.std.proofs.lemmas.List.Concat.{flat_map-append}
use Rattle.stages.specs.Passing.{flat_map-flat_map}
use Rattle.barriers.specs.Needs.{IsOutcome, KeepsEnough}
use Rattle.parallel_streams.proofs.Gathering.{goes-on}
use Rattle.line_readers.specs.Values.{GoesOn}

-- what goes on behind a front that is all or enough, goes on behind all
pub if-goes-on : {C V E : Type 0} (needed : Option ℕ) (counted : C → Bool) (before after : List C → List C) → KeepsEnough needed counted before
    → (whole front : List C) (contents : V → List C) → IsOutcome needed counted whole front → (result : Result V E)
    → ((more : List C) → IfOk result (λ kept. before (front ++ more) ≡ contents kept ++ after more)) → IfOk result (λ kept. GoesOn before after whole (contents kept))
if-goes-on needed counted before after law whole front contents outcome (Ok kept) on = goes-on needed counted before after law whole front (contents kept) outcome on
if-goes-on needed counted before after law whole front contents outcome (Err e) on = tt

module _ {X Y Z : Type 0} (expand : Y → List Z) (front front_after : List X → List Y) (own own_after : List Z → List Z) where
  goes-linked : (came : List X) (items : List Y) (made kept : List Z) → GoesOn front front_after came items → made ≡ flat_map expand items → GoesOn own own_after made kept
      → GoesOn (λ l. own (flat_map expand (front l))) (λ l. own_after (flat_map expand (front_after l))) came kept
  goes-linked came items made kept on is later = λ more.
      let rest = flat_map expand (front_after more) in
      ap (λ l. own (flat_map expand l)) (on more) ∙ ap own (flat_map-append expand items (front_after more) ∙ ap (λ l. l ++ rest) (sym is)) ∙ later rest

  pub if-linked : {V E : Type 0} (came : List X) (items : List Y) (made : List Z) (contents : V → List Z) → GoesOn front front_after came items → made ≡ flat_map expand items
      → (result : Result V E) → IfOk result (λ kept. GoesOn own own_after made (contents kept))
      → IfOk result (λ kept. GoesOn (λ l. own (flat_map expand (front l))) (λ l. own_after (flat_map expand (front_after l))) came (contents kept))
  if-linked came items made contents on is (Ok kept) later = goes-linked came items made (contents kept) on is later
  if-linked came items made contents on is (Err e) later = tt

-- what lets all pass, one behind another
pub pass-linked : {X Y Z : Type 0} (expand : Y → List Z) (front : List X → List Y) (own : List Z → List Z) (stages : X → List Y) (more : List X) → front more ≡ flat_map stages more
    → ((l : List Z) → own l ≡ l) → own (flat_map expand (front more)) ≡ flat_map (λ x. flat_map expand (stages x)) more
pass-linked expand front own stages more passes lets =
    lets (flat_map expand (front more)) ∙ ap (flat_map expand) passes ∙ flat_map-flat_map stages expand more
