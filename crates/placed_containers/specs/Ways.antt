-- Ways through a list: from place to place by its parts.
use Rattle.std.specs.Prelude.{◌≡◌, ◌<◌, ◌≤◌, ◌⊎◌, ◌++◌, ℕ, List, [], ◌∷◌, ⊤, All, Any, IfSome, if◌then◌else◌, nat_eq}
use Rattle.std.specs.Option.{option_to_list}
use Rattle.std.specs.List.{list_any}
use Rattle.indexmap.specs.IndexSet.{insert_key}
use Rattle.placed_containers.specs.declared.pieces.Part.{Part}
use Rattle.placed_containers.specs.declared.pieces.Pieces.{Pieces}

-- the way from p to q by the stops: what is told leads from each to the next
abbrev pub IsWay : (ℕ → ℕ → Type 0) → ℕ → List ℕ → ℕ → Type 0
IsWay told p [] q = p ≡ q
IsWay told p (s ∷ stops) q = told p s × IsWay told s stops q

-- a way leads from p to q, and nothing that is told leads up to p, or on from q
abbrev pub IsLongestWay : (ℕ → ℕ → Type 0) → ℕ → ℕ → Type 0
IsLongestWay told p q = ((o : ℕ) → o < p → told o p → ⊥) × ((r : ℕ) → q < r → told q r → ⊥) × (stops : List ℕ) × IsWay told p stops q

module _ {A : Type 0} where
  abbrev pub begin_of : Part A → ℕ
  begin_of part = part.places.from

  abbrev pub end_of : Part A → ℕ
  end_of part = part.places.to

  -- one of the parts is between these places
  abbrev pub HasPart : List (Part A) → ℕ → ℕ → Type 0
  HasPart parts p q = Any (λ part. (begin_of part ≡ p) × (end_of part ≡ q)) parts

  -- each begins no later than those before it
  abbrev pub IsFalling : List (Part A) → Type 0
  IsFalling [] = ⊤
  IsFalling (x ∷ parts) = All (λ y. begin_of y ≤ begin_of x) parts × IsFalling parts

  -- the places from which parts lead to one of these, where each begins no later than those before it
  abbrev pub reached : List ℕ → List (Part A) → List ℕ
  reached places [] = places
  reached places (x ∷ parts) = reached (if list_any (nat_eq (end_of x)) places then insert_key nat_eq places (begin_of x) else places) parts

  -- the place is the end, or one of the parts begins there
  abbrev pub IsStop : ℕ → List (Part A) → ℕ → Type 0
  IsStop end parts p = (p ≡ end) ⊎ Any (λ part. begin_of part ≡ p) parts

  -- each part ends at the end, or where a later one begins
  abbrev pub LeadsOn : ℕ → List (Part A) → Type 0
  LeadsOn end [] = ⊤
  LeadsOn end (x ∷ parts) = IsStop end parts (end_of x) × LeadsOn end parts

  -- the pieces, and the parts behind them
  abbrev pub all_of : Pieces A → List (Part A) → List (Part A)
  all_of pieces rest = pieces.done.items ++ (option_to_list pieces.open ++ rest)

  -- each of the pieces is so
  abbrev pub AllPieces : (Part A → Type 0) → Pieces A → Type 0
  AllPieces P pieces = All P pieces.done.items × IfSome pieces.open P

  -- each piece has a length, and those that are done end at the end at most
  abbrev pub HaveLength : Pieces A → Type 0
  HaveLength pieces = All (λ part. (begin_of part < end_of part) × (end_of part ≤ pieces.end)) pieces.done.items × IfSome pieces.open (λ part. begin_of part < end_of part)
