-- Things of a line, read by their names, and whole lines.
use Rattle.std.specs.Prelude.{◌≡◌, ℕ, true, List, Result, Ok, Err, if◌then◌else◌}
use Rattle.std.specs.Str.{is_utf8, bytes_eq}
use Rattle.file_words.specs.{declared.fault.FileError.FileError, Words.words_of}
use Rattle.file_words.specs.declared.fault.FileError.TheVariants.{BadText, UnknownWord, WrongKind}
use Rattle.file_words.specs.WordReading.{◌>>=◌, Reader, next_word, ended}
use Rattle.pipeline_language.specs.Form.{Forms}

-- nothing at all
abbrev pub nothing : Reader (Unit {0})
nothing left = Ok (tt, left)

-- one thing after another
abbrev pub both : {A B : Type 0} → Reader A → Reader B → Reader (A × B)
both first second left = first left >>= λ a. second a.1 >>= λ b. Ok ((a.0, b.0), b.1)

-- A name, and what follows it by that name.
abbrev pub ByName : Type 0 → Type 0
ByName X = List ℕ → Reader X

abbrev pub named : {A X : Type 0} → List ℕ → (A → X) → Reader A → ByName X → ByName X
named name make follows others found left = if bytes_eq found name then (follows left >>= λ a. Ok (make a.0, a.1)) else others found left

-- things by the names of what they are made of
abbrev pub made_of : {A X : Type 0} → (A → X) → ByName A → ByName X
made_of make names found left = names found left >>= λ a. Ok (make a.0, a.1)

abbrev pub unknown : {X : Type 0} → ByName X
unknown found left = Err UnknownWord

abbrev pub by_name : {X : Type 0} → ByName X → Reader X
by_name names left = next_word left >>= λ w. names w.0 w.1

-- What a function that reads answers, by its content, where nothing is left.
abbrev pub ReadAs : {X Y : Type 0} → (X → Y) → Result Y FileError → Result X FileError → Type 0
ReadAs content read (Ok x) = read ≡ Ok (content x)
ReadAs content read (Err e) = read ≡ Err e

-- all the words of a line
unfoldable pub whole : {X : Type 0} → Reader X → List (List ℕ) → Result X FileError
whole read words = read (record { words = words; good = true }) >>= λ x. ended x.1.words x.1.good >>= λ _. Ok x.0

-- with the kinds and the limits
abbrev pub fitting : {X : Type 0} → Forms X → X → Result X FileError
fitting forms x = if forms.takes_kind x then (if forms.in_limits x then Ok x else Err forms.limit_fault) else Err WrongKind

-- a line
unfoldable pub line_of : {X : Type 0} → Forms X → Reader X → List ℕ → Result X FileError
line_of forms read line = if is_utf8 line then whole read (words_of line) >>= fitting forms else Err BadText
