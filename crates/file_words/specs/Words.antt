-- Lines of a file, words of a line, and numbers as words.
use Rattle.std.specs.Prelude.{◌≡◌, ℕ, ℤ, pos, negsuc, List, [], ◌∷◌, ◌==◌, Option, Some, None, FitsSigned}
use Rattle.std.specs.{Borrow.Bor, Int.w64, List.slice_split, Fmt.signed_decimal}

-- The pieces between line ends. What follows the last line end is a line where it isn't empty.
abbrev pub without_empty_last : List (List ℕ) → List (List ℕ)
without_empty_last [] = []
without_empty_last ([] ∷ []) = []
without_empty_last ((b ∷ bs) ∷ []) = (b ∷ bs) ∷ []
without_empty_last (piece ∷ next ∷ pieces) = piece ∷ without_empty_last (next ∷ pieces)

abbrev pub lines_of : List ℕ → List (List ℕ)
lines_of file = without_empty_last (slice_split (λ b. b == 10) file)

-- the words of a line: the pieces between its spaces
abbrev pub words_of : List ℕ → List (List ℕ)
words_of line = slice_split (λ b. b == 32) line

-- the same of what is left of a line, which may be nothing: then no word is left
abbrev pub words_left : Option (Bor (List ℕ)) → List (List ℕ)
words_left None = []
words_left (Some line) = words_of line.now

-- Each number has one text: the digits that write it, without leading zeros, behind a `-` where it is negative.
abbrev pub IsNumber : List ℕ → ℤ → Type 0
IsNumber word n = FitsSigned w64 n × (word ≡ signed_decimal n)

-- the least and the greatest number of 64 bits
abbrev pub lowest : ℤ
lowest = negsuc 9223372036854775807

abbrev pub highest : ℤ
highest = pos 9223372036854775807
