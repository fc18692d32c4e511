-- Texts in texts, and texts without white space at their ends.
use Rattle.std.specs.Prelude.{ℕ, Bool, ◌||◌, ◌==◌, ◌-◌, List, [], ◌∷◌, length, take, drop}
use Rattle.std.specs.Char.{is_ascii_whitespace}
use Rattle.std.specs.List.{starts_with, prefix_len, suffix_len}

-- the text begins with the part, or what follows its first byte contains the part
unfoldable pub contains : List ℕ → List ℕ → Bool
contains part [] = starts_with ◌==◌ [] part
contains part (b ∷ text) = starts_with ◌==◌ (b ∷ text) part || contains part text

abbrev pub behind_space : List ℕ → List ℕ
behind_space text = drop (prefix_len is_ascii_whitespace text) text

abbrev pub before_space : List ℕ → List ℕ
before_space text = take (length text - suffix_len is_ascii_whitespace text) text

-- without the white space of ASCII that the text begins with, and then without that which it ends with
unfoldable pub trimmed : List ℕ → List ℕ
trimmed text = before_space (behind_space text)
