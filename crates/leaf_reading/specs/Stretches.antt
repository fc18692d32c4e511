-- How far a sink has come with a list of items.
use Rattle.std.specs.Prelude.{List}

-- whatever the sink takes of what is left of the items, it has taken of all of them
abbrev pub TakesOn : {X T K : Type 0} → (K → List T → K → Type 0) → (List X → List T) → List X → K → List X → K → Type 0
TakesOn takes images all before left after = (end : _) → takes after (images left) end → takes before (images all) end
