-- Texts of one line.
use Rattle.std.specs.Prelude.{◌==◌, ℕ, Bool, true, false, cond, List, [], ◌∷◌}

-- whether a text has no line feed
abbrev pub is_one_line : List ℕ → Bool
is_one_line [] = true
is_one_line (b ∷ bs) = cond (b == 10) false (is_one_line bs)
