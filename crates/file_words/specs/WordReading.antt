-- Numbers and words of a line, read one by one.
use Rattle.std.specs.Prelude.{◌≡◌, ℕ, ℤ, pos, negsuc, Bool, true, false, ◌&&◌, List, [], ◌∷◌, ◌++◌, nat_lt, int_le, unsigned_abs, Option, Some, None, Result, Ok, Err, if◌then◌else◌}
use Rattle.std.specs.{Borrow.Bor, Str.bytes_eq, Str.Parse.signed_digits_value, Fmt.signed_decimal}
use Rattle.file_words.specs.declared.fault.FileError.{FileError}
use Rattle.file_words.specs.declared.fault.FileError.TheVariants.{BadArity, BadNumber}
use Rattle.file_words.specs.Words.{lowest, words_of, words_left}

infixl 10 ◌>>=◌
abbrev pub ◌>>=◌ : {A B E : Type 0} → Result A E → (A → Result B E) → Result B E
(Ok x) >>= f = f x
(Err e) >>= f = Err e

-- the number is in the range of 64 bits
abbrev pub fits_signed : ℤ → Bool
fits_signed (pos n) = nat_lt n 9223372036854775808
fits_signed (negsuc n) = nat_lt n 9223372036854775808

-- the number that writes the word
unfoldable pub number_of : List ℕ → Option ℤ
number_of word = let n = signed_digits_value 10 word in if fits_signed n && bytes_eq (signed_decimal n) word then Some n else None

-- The first word of a line and what is left behind it, by the number that the word is.
abbrev pub ReadsNumber : List ℕ → Option ℤ → Option (Bor (List ℕ)) → Type 0
ReadsNumber line number left = (word : List ℕ) × (words_of line ≡ word ∷ words_left left) × (number ≡ number_of word)

-- What is left of a line, and whether each number before it is one and in its range.
pub record Left : Type 0 where
  pub words : List (List ℕ)
  pub good : Bool

-- Reading the front of what is left.
abbrev pub Reader : Type 0 → Type 0
Reader X = Left → Result (X × Left) FileError

-- the next word
abbrev pub word_of : List (List ℕ) → Bool → Result (List ℕ × Left) FileError
word_of [] good = Err BadArity
word_of (word ∷ words) good = let found : List ℕ × Left = (word, record { words = words; good = good }) in Ok found

unfoldable pub next_word : Reader (List ℕ)
next_word left = word_of left.words left.good

-- the next number, and the lowest one where no number of the range stands there
abbrev pub number_at : ℤ → ℤ → Left → Option ℤ → ℤ × Left
number_at low high left None = (low, record { words = left.words; good = false })
number_at low high left (Some n) = if int_le low n && int_le n high then (n, left) else (low, record { words = left.words; good = false })

unfoldable pub next_number : ℤ → ℤ → Reader ℤ
next_number low high left = next_word left >>= λ w. Ok (number_at low high w.1 (number_of w.0))

unfoldable pub next_natural : ℤ → Reader ℕ
next_natural high left = next_number (pos 0) high left >>= λ n. Ok (unsigned_abs n.0, n.1)

-- all the numbers that are left, and the lowest one for a word that is none
abbrev pub with_first : Option ℤ → Bool → (Bool → List ℤ × Left) → List ℤ × Left
with_first (Some n) good more = (n ∷ (more good).0, (more good).1)
with_first None good more = (lowest ∷ (more false).0, (more false).1)

abbrev pub numbers_from : List (List ℕ) → Bool → List ℤ × Left
numbers_from [] good = ([], record { words = []; good = good })
numbers_from (word ∷ words) good = with_first (number_of word) good (numbers_from words)

-- the same behind numbers that were read before
abbrev pub behind : List ℤ → List ℤ × Left → List ℤ × Left
behind ns r = (ns ++ r.0, r.1)

unfoldable pub all_numbers : Reader (List ℤ)
all_numbers left = Ok (numbers_from left.words left.good)

-- no word is left
abbrev pub is_done : List (List ℕ) → Bool
is_done [] = true
is_done (word ∷ words) = false

-- What a function that reads answers, by its content, with what it leaves.
abbrev pub GetsAs : {X Y : Type 0} → (X → Y) → Result (Y × Left) FileError → Result X FileError → Left → Type 0
GetsAs content read (Ok x) left = read ≡ Ok (content x, left)
GetsAs content read (Err e) left = read ≡ Err e

abbrev pub Gets : {X : Type 0} → Result (X × Left) FileError → Result X FileError → Left → Type 0
Gets read result left = GetsAs (λ x. x) read result left

-- Where a line ends: no words are left over, and each number is one.
abbrev pub ended : List (List ℕ) → Bool → Result (Unit {0}) FileError
ended [] good = if good then Ok tt else Err BadNumber
ended (word ∷ words) good = Err BadArity
