-- The number that a line writes.
use Rattle.std.specs.Prelude.{ℕ, Bool, true, false, ◌&&◌, List, ℤ, pos, negsuc, int_lt, Option, Some, None, Result, Ok, Err, MatchResult, IfSome, if◌then◌else◌, ⊤}
use Rattle.mohairjade.specs.Words.{IsI64, number_in}
use Rattle.stream_functions.specs.Pieces.{number-value}

-- whether the number lies between -2^31 and 2^31
abbrev pub is_small : ℤ → Bool
is_small n = int_lt (negsuc 2147483647) n && int_lt n (pos 2147483648)

abbrev pub kept_if : Bool → ℤ → List ℕ → Result ℤ (List ℕ)
kept_if true n line = Ok n
kept_if false n line = Err line

abbrev pub read_as : Option ℤ → List ℕ → Result ℤ (List ℕ)
read_as None line = Err line
read_as (Some n) line = kept_if (is_small n) n line

-- the number of a line that writes one that is small, and else the line
abbrev pub number : List ℕ → Result ℤ (List ℕ)
number line = read_as (number_in line) line

abbrev pub IsRead : Result ℤ (List ℕ) → Type 0
IsRead read = MatchResult read IsI64 (λ _. ⊤)

pub kept_if-value : (is : Bool) (n : ℤ) (line : List ℕ) → IsI64 n → IsRead (kept_if is n line)
kept_if-value true n line value = value
kept_if-value false n line value = tt

pub read_as-value : (found : Option ℤ) (line : List ℕ) → IfSome found IsI64 → IsRead (read_as found line)
read_as-value None line value = tt
read_as-value (Some n) line value = kept_if-value (is_small n) n line value

pub number_or_line : (line : List ℕ) → IsRead (number line)
number_or_line line = read_as-value (number_in line) line (number-value line)
