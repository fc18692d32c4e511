-- What lines tell of the parts of a list.
use Rattle.std.specs.Prelude.{◌≡◌, ◌≤◌, ◌++◌, ℕ, List, [], ◌∷◌, Any, Some, codes, ⊤}
use Rattle.serde_json.specs.Data.{Data, number, unsigned, string, array}
use Rattle.serde_json.specs.View.{items_of}
use Rattle.serde_json.specs.Read.{read}
use Rattle.placed_containers.specs.declared.error.PartsError.{PartsError}
use Rattle.placed_containers.specs.declared.error.PartsError.TheVariants.{NoMemory, NoParts, Missing}
use Rattle.placed_containers.specs.declared.pieces.Part.{Part}

-- the items between places: those of two parts, the one behind the other, are those of both
abbrev pub Joins : {X : Type 0} → (ℕ → ℕ → List X) → Type 0
Joins between = (p q r : ℕ) → p ≤ q → q ≤ r → between p q ++ between q r ≡ between p r

-- a line as JSON: the format and its version, the job, the places, and a container's form
abbrev pub header_form : List ℕ → ℕ → ℕ → ℕ → List Data
header_form job from to of = string (codes "parts") ∷ number (unsigned 1) ∷ string job
    ∷ number (unsigned from) ∷ number (unsigned to) ∷ number (unsigned of) ∷ []

abbrev pub part_form : List ℕ → ℕ → ℕ → ℕ → Data → Data
part_form job from to of container = array (items_of (header_form job from to of ++ container ∷ []))

-- the line is one of the job, of the part between two places of so many
abbrev pub IsAt : List ℕ → ℕ → ℕ → ℕ → List ℕ → Type 0
IsAt job from to of line = (container : Data) × (read line ≡ Some (part_form job from to of container))

-- the line is one of the job
abbrev pub IsOfJob : List ℕ → List ℕ → Type 0
IsOfJob job line = (from to of : ℕ) × IsAt job from to of line

-- one of the lines is of the part between two places of n
abbrev pub Told : {L : Type 0} → (L → List ℕ) → List ℕ → ℕ → List L → ℕ → ℕ → Type 0
Told bytes job n lines p q = Any (λ line. IsAt job p q n (bytes line)) lines

-- the line tells of the part between two places of n
abbrev pub IsPartLine : {X : Type 0} → (List X → Data → Type 0) → List ℕ → (ℕ → ℕ → List X) → ℕ → List ℕ → Type 0
IsPartLine tells job between n line = (from to : ℕ) × (container : Data) × from ≤ to × to ≤ n
    × (read line ≡ Some (part_form job from to n container)) × tells (between from to) container

-- the part has its places within n, in order, and the container of the items between them
abbrev pub IsPart : {X C : Type 0} → (List X → C → Type 0) → (ℕ → ℕ → List X) → ℕ → Part C → Type 0
IsPart made between n part = part.places.from ≤ part.places.to × part.places.to ≤ n × (part.places.of ≡ n) × made (between part.places.from part.places.to) part.container

-- memory was refused, or parts have yet to come
abbrev pub IsForMore : PartsError → Type 0
IsForMore NoMemory = ⊤
IsForMore NoParts = ⊤
IsForMore (Missing gaps) = ⊤
IsForMore _ = ⊥
