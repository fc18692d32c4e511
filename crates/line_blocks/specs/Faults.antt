-- What is told of bytes that are no lines of text, and where they stand.
use Rattle.std.specs.Prelude.{◌≡◌, ◌≤◌, ◌+◌, ℕ, List, ◌++◌, Option, Some, None, length, ⊤}
use Rattle.std.specs.Str.{IsUtf8, IsValidUpTo}
use Rattle.sources.specs.Lines.{LacksLineFeed}
use Rattle.line_blocks.specs.declared.error.LinesError.{LinesError}
use Rattle.line_blocks.specs.declared.error.LinesError.TheVariants.{NoMemory, NotUtf8, LongLine, Read, TooLong}

-- what was taken off the known bytes is text, and so many bytes
pub record IsBehind (all left : List ℕ) (place : ℕ) : Type 0 where
  pub front : List ℕ
  pub bytes : all ≡ front ++ left
  pub length_is : place ≡ length front
  pub text : IsUtf8 front

abbrev pub StandsAt : Option (List ℕ) → Option (List ℕ) → ℕ → Type 0
StandsAt None left place = ⊤
StandsAt (Some all) None place = ⊥
StandsAt (Some all) (Some left) place = IsBehind all left place

-- behind some text so many bytes have no line feed
pub record IsLongLine (size : ℕ) (all : List ℕ) (place : ℕ) : Type 0 where
  pub front : List ℕ
  pub line : List ℕ
  pub rest : List ℕ
  pub bytes : all ≡ (front ++ line) ++ rest
  pub text : IsUtf8 front
  pub long : size ≤ length line
  pub unbroken : LacksLineFeed line 0 (length line)
  pub place_is : place ≡ length front

-- the error is one of the known bytes: the longest front that is text ends at the place, and more bytes follow; or a line of so many bytes begins there
abbrev pub IsFault : ℕ → Option (List ℕ) → LinesError → Type 0
IsFault size None e = ⊤
IsFault size (Some all) NoMemory = ⊤
IsFault size (Some all) (NotUtf8 place) = IsValidUpTo all place
IsFault size (Some all) (LongLine place) = IsLongLine size all place
IsFault size (Some all) (Read e) = ⊤
IsFault size (Some all) TooLong = ⊤

-- a block at a place isn't text
abbrev pub IsBadBlock : List ℕ → ℕ → LinesError → Type 0
IsBadBlock block place NoMemory = ⊤
IsBadBlock block place (NotUtf8 at) = (within : ℕ) × IsValidUpTo block within × (at ≡ place + within)
IsBadBlock block place (LongLine at) = ⊥
IsBadBlock block place (Read e) = ⊤
IsBadBlock block place TooLong = ⊤

-- the first so many bytes have no line feed
abbrev pub IsLongFront : ℕ → Option (List ℕ) → ℕ → LinesError → Type 0
IsLongFront size left place NoMemory = ⊤
IsLongFront size left place (NotUtf8 at) = ⊥
IsLongFront size None place (LongLine at) = at ≡ place
IsLongFront size (Some left) place (LongLine at) = (line : List ℕ) × (rest : List ℕ) × (left ≡ line ++ rest) × (size ≤ length line) × LacksLineFeed line 0 (length line) × (at ≡ place)
IsLongFront size left place (Read e) = ⊤
IsLongFront size left place TooLong = ⊤

-- the error tells of no byte
abbrev pub IsNoFault : LinesError → Type 0
IsNoFault NoMemory = ⊤
IsNoFault (NotUtf8 at) = ⊥
IsNoFault (LongLine at) = ⊥
IsNoFault (Read e) = ⊤
IsNoFault TooLong = ⊤
