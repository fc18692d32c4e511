-- The bytes of the lines that begin between two places of a text. A line begins at place 0, and behind each line feed.
use Rattle.std.specs.Prelude.{◌≡◌, ℕ, zero, suc, List, [], ◌++◌, take, drop}
use Rattle.std.specs.Io.BufRead.{take_through, drop_through}

-- the bytes from the first line on that begins at the place or behind it
abbrev pub from_line : ℕ → List ℕ → List ℕ
from_line zero bytes = bytes
from_line (suc before) bytes = drop_through 10 (drop before bytes)

-- the bytes before that line
abbrev pub before_line : ℕ → List ℕ → List ℕ
before_line zero bytes = []
before_line (suc before) bytes = take before bytes ++ take_through 10 (drop before bytes)

-- the bytes of the lines that begin at the first place or behind it, and before the second
abbrev pub bytes_between : ℕ → ℕ → List ℕ → List ℕ
bytes_between from to bytes = from_line from (before_line to bytes)

-- the bytes before the found place are those before that line
pub record IsLineBegin (place : ℕ) (bytes : List ℕ) (found : ℕ) : Type 0 where
  pub before : take found bytes ≡ before_line place bytes
  pub on : drop found bytes ≡ from_line place bytes
