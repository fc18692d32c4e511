-- A piece of a file, by its bytes and as text, and the lines that pieces are cut into.
use Rattle.std.specs.Prelude.{◌≡◌, ℕ, List, [], ◌∷◌, true, false, Option, Result, MatchOption, MatchResult}
use Rattle.std.specs.{Borrow.Bor, Str.is_utf8}
use Rattle.file_words.specs.{declared.fault.FileError.FileError, declared.fault.FileError.TheVariants.BadText, declared.lines.Piece.Piece, Words.lines_of}
use Rattle.file_words.specs.declared.lines.Piece.TheVariants as pieces

abbrev pub piece_bytes : Piece → List ℕ
piece_bytes (pieces.Text text) = text.now
piece_bytes (pieces.Bytes bytes) = bytes.now

-- The bytes as text, or that they aren't text.
abbrev pub IsTextOf : List ℕ → Result (Bor (List ℕ)) FileError → Type 0
IsTextOf bytes result = MatchResult result (λ text. (text.now ≡ bytes) × (is_utf8 bytes ≡ true)) (λ e. (e ≡ BadText) × (is_utf8 bytes ≡ false))

-- The first of some lines and those behind it, or none of none.
abbrev pub TakesLine : List (List ℕ) → Option Piece → List (List ℕ) → Type 0
TakesLine lines result left = MatchOption result ((lines ≡ []) × (left ≡ [])) (λ line. lines ≡ piece_bytes line ∷ left)

-- The first line of some bytes and what stands behind its end, or none where they have no line.
abbrev pub CutsLine : List ℕ → Option (Bor (List ℕ) × Bor (List ℕ)) → Type 0
CutsLine bytes result = MatchOption result (lines_of bytes ≡ []) (λ p. lines_of bytes ≡ p.0.now ∷ lines_of p.1.now)
