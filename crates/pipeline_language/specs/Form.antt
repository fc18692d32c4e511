-- Forms of a line: which words a line has, and which fault it has where no form fits.
use Rattle.std.specs.Prelude.{◌≡◌, ◌⊎◌, ℕ, ◌≤ℤ◌, ℤ, pos, Bool, true, List, [], ◌∷◌, length, IsUtf8}
use Rattle.std.specs.Fmt.{signed_decimal}
use Rattle.file_words.specs.Words.{lowest, highest, words_of}
use Rattle.file_words.specs.declared.fault.FileError.{FileError}
use Rattle.file_words.specs.declared.fault.FileError.TheVariants.{BadText, UnknownWord, BadArity, BadNumber, WrongKind}

-- a place in a form: a name, either of two names, a number in a range, or any word
pub data Slot : Type 0 where
  Name : List ℕ → Slot
  EitherName : List ℕ → List ℕ → Slot
  Number : ℤ → ℤ → ℤ → Slot
  AnyWord : List ℕ → Slot

-- a number of any size that the language has; one that isn't negative; one that is positive
abbrev pub number : ℤ → Slot
number n = Number lowest highest n

abbrev pub natural : ℕ → Slot
natural n = Number (pos 0) highest (pos n)

abbrev pub divisor : ℤ → Slot
divisor n = Number (pos 1) highest n

-- a name stands as it is
abbrev pub NameFits : Slot → List ℕ → Type 0
NameFits (Name name) word = word ≡ name
NameFits (EitherName name other) word = (word ≡ name) ⊎ (word ≡ other)
NameFits slot word = Unit {0}

-- a number stands by its one text, which has no leading 0 and no `+`
abbrev pub WordFits : Slot → List ℕ → Type 0
WordFits (Number low high n) word = (low ≤ℤ n) × (n ≤ℤ high) × (word ≡ signed_decimal n)
WordFits (AnyWord text) word = word ≡ text
WordFits name word = NameFits name word

-- as far as the words go, the form's names stand in their places
abbrev pub NamesFit : List Slot → List (List ℕ) → Type 0
NamesFit [] words = Unit {0}
NamesFit (slot ∷ slots) [] = Unit {0}
NamesFit (slot ∷ slots) (word ∷ words) = NameFits slot word × NamesFit slots words

-- the words are those of the form, one for each place
abbrev pub WordsFit : List Slot → List (List ℕ) → Type 0
WordsFit [] [] = Unit {0}
WordsFit [] (word ∷ words) = ⊥
WordsFit (slot ∷ slots) [] = ⊥
WordsFit (slot ∷ slots) (word ∷ words) = WordFits slot word × WordsFit slots words

-- every thing is known
abbrev pub all_known : {X : Type 0} → X → Bool
all_known x = true

-- What may stand in a line: the form of each such thing, whether the file's version knows its names, what else is asked of
-- it, and the fault of one past its limits.
pub record Forms (X : Type 0) : Type 1 where
  pub slots : X → List Slot
  pub known : X → Bool
  pub takes_kind : X → Bool
  pub in_limits : X → Bool
  pub limit_fault : FileError

-- the words are those of x
pub record AreWordsOf {X : Type 0} (forms : Forms X) (words : List (List ℕ)) (x : X) : Type 0 where
  pub known : forms.known x ≡ true
  pub spelled : WordsFit (forms.slots x) words
  pub kind : forms.takes_kind x ≡ true
  pub limits : forms.in_limits x ≡ true

-- the line is that of x
abbrev pub IsLineOf : {X : Type 0} → Forms X → List ℕ → X → Type 0
IsLineOf forms line x = IsUtf8 line × AreWordsOf forms (words_of line) x

-- Tests in their order, each with the fault of a line that nothing passes it for.
pub data Tests (X : Type 0) : Type 1 where
  NoTest : Tests X
  Test : FileError → (X → Type 0) → Tests X → Tests X

-- The fault is that of the first test which nothing passes, of what passes those before it.
abbrev pub FirstFault : {X : Type 0} → Tests X → (X → Type 0) → FileError → Type 0
FirstFault NoTest before kind = ⊥
FirstFault {X} (Test fault test more) before kind = ((kind ≡ fault) × ((x : X) → before x → test x → ⊥))
    ⊎ (((x : X) × before x × test x) × FirstFault more (λ x. before x × test x) kind)

-- The tests of a line's words: names that the version knows stand in their places, the number of words is right, each
-- number is one and in its range, the kinds fit, the limits are kept.
abbrev pub tests : {X : Type 0} → Forms X → List (List ℕ) → Tests X
tests forms words =
    Test UnknownWord (λ x. (forms.known x ≡ true) × NamesFit (forms.slots x) words)
    (Test BadArity (λ x. length (forms.slots x) ≡ length words)
    (Test BadNumber (λ x. WordsFit (forms.slots x) words)
    (Test WrongKind (λ x. forms.takes_kind x ≡ true)
    (Test forms.limit_fault (λ x. forms.in_limits x ≡ true) NoTest))))

-- the fault of a line's words
abbrev pub WordsFault : {X : Type 0} → Forms X → List (List ℕ) → FileError → Type 0
WordsFault forms words kind = FirstFault (tests forms words) (λ x. Unit {0}) kind

-- the fault of a line
abbrev pub LineFault : {X : Type 0} → Forms X → List ℕ → FileError → Type 0
LineFault forms line kind = ((IsUtf8 line → ⊥) × (kind ≡ BadText)) ⊎ (IsUtf8 line × WordsFault forms (words_of line) kind)
