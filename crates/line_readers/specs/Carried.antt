-- What holds of items that are carried on from block to block.
use Rattle.std.specs.Prelude.{◌≡◌, ◌++◌, List, [], flat_map}
use Rattle.std.proofs.Common.{ap, ◌∙◌}

-- of nothing, an operation behind others leaves nothing
pub linked-nothing : {X Y Z : Type 0} (own : List Z → List Z) (expand : Y → List Z) (before : List X → List Y) → before [] ≡ [] → own [] ≡ []
    → own (flat_map expand (before [])) ≡ []
linked-nothing own expand before none nothing = ap (λ l. own (flat_map expand l)) none ∙ nothing
