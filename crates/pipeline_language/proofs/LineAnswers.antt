-- A line has the answer that reading gives: the thing of the line, or its fault.
use Rattle.std.proofs.Common.{◌≡◌, ℕ, suc, Bool, true, false, List, [], ◌∷◌, ◌++◌, length, Result, Ok, Err, refl, sym, ap, subst, ◌∙◌, inl, inr, arith}
use Rattle.std.{specs.Prelude.IsUtf8, specs.Str.is_utf8, proofs.lemmas.List.append-nil}
use Rattle.std.proofs.lemmas.Bool.{cond_both, cond-true, false≢true}
use Rattle.std.proofs.lemmas.Str.{is_utf8-from_IsUtf8, IsUtf8-from_is_utf8}
use Rattle.file_words.specs.{declared.fault.FileError.FileError, Words.words_of}
use Rattle.file_words.specs.declared.fault.FileError.TheVariants.{BadText, WrongKind}
use Rattle.pipeline_language.specs.Form.{NamesFit, WordsFit, Forms, AreWordsOf, IsLineOf, WordsFault, LineFault}
use Rattle.file_words.specs.WordReading.{◌>>=◌, Left, Reader, ended}
use Rattle.pipeline_language.specs.Reading.{whole, fitting, line_of}
use Rattle.pipeline_language.proofs.PhraseLemmas.{stops_at_names, stops_at_length, stops_at_numbers, stops_at_kind, stops_at_limits, line_or_fault, one_line_fault, AtEnd, Phrase, Found, Met}

-- the thing that the words spell, or their fault
abbrev pub AnswersWords : {X : Type 0} → Forms X → List (List ℕ) → Result X FileError → Type 0
AnswersWords forms words (Ok x) = AreWordsOf forms words x
AnswersWords forms words (Err kind) = WordsFault forms words kind

-- the same of a line
abbrev pub AnswersLine : {X : Type 0} → Forms X → List ℕ → Result X FileError → Type 0
AnswersLine forms line (Ok x) = IsLineOf forms line x
AnswersLine forms line (Err kind) = LineFault forms line kind

same_in_ok : {A : Type 0} (x y : A) → (let r : Result A FileError = Ok x in r) ≡ Ok y → x ≡ y
same_in_ok x y e = cc

pub not_text : (line : List ℕ) → is_utf8 line ≡ false → IsUtf8 line → ⊥
not_text line untrue text = false≢true (sym untrue ∙ is_utf8-from_IsUtf8 line text)

module _ {X : Type 0} (forms : Forms X) (read : Reader X) (phrase : Phrase AtEnd forms.known forms.slots read) where
  names_from_end : (x : X) (words : List (List ℕ)) → NamesFit (forms.slots x ++ []) words → NamesFit (forms.slots x) words
  names_from_end x words n = subst (λ s. NamesFit s words) (append-nil (forms.slots x)) n

  -- what is known of a thing whose names fit
  met : (x : X) → forms.known x ≡ true → (words : List (List ℕ)) → NamesFit (forms.slots x) words → Met [] (length (forms.slots x) ≡ length words) (read (record { words = words; good = true }))
  met x known words =
      subst (λ s. NamesFit s words → Met [] (length s ≡ length words) (read (record { words = words; good = true }))) (append-nil (forms.slots x)) ((phrase.knows x known).met [] refl words true)

  nothing_left : (rest : List (List ℕ)) → WordsFit [] rest → rest ≡ []
  nothing_left [] w = refl
  nothing_left (word ∷ words) w = absurd w

  -- what is spelled is read, and nothing is left
  spelled : (x : X) → forms.known x ≡ true → (words : List (List ℕ)) → WordsFit (forms.slots x) words → read (record { words = words; good = true }) ≡ Ok (x, record { words = []; good = true })
  spelled x known words w =
      let k = (phrase.knows x known).spelled [] refl words true (subst (λ s. WordsFit s words) (sym (append-nil (forms.slots x))) w) in
      k.1 ∙ ap (λ rest. let found : Result (X × Left) FileError = Ok (x, record { words = rest; good = true }) in found) (nothing_left k.0 k.2)

  one_thing : (x y : X) → forms.known x ≡ true → forms.known y ≡ true → (words : List (List ℕ)) → WordsFit (forms.slots x) words → WordsFit (forms.slots y) words → x ≡ y
  one_thing x y first second words v w =
      let a : X × Left = (x, record { words = []; good = true }) in
      let b : X × Left = (y, record { words = []; good = true }) in
      ap (λ p. p.0) (same_in_ok a b (sym (spelled x first words v) ∙ spelled y second words w))

  fits_answer : (x : X) → forms.known x ≡ true → (words : List (List ℕ)) → WordsFit (forms.slots x) words → AnswersWords forms words (fitting forms x)
  fits_answer x known words w =
      cond_both (forms.takes_kind x) _ _ (AnswersWords forms words)
      (λ kind. cond_both (forms.in_limits x) _ _ (AnswersWords forms words)
      (λ limits. record { known = known; spelled = w; kind = kind; limits = limits })
      (λ past. stops_at_limits forms words x known w kind (λ y other v k limits. false≢true (sym past ∙ ap forms.in_limits (one_thing x y known other words w v) ∙ limits))))
      (λ wrong. stops_at_kind forms words x known w (λ y other v k. false≢true (sym wrong ∙ ap forms.takes_kind (one_thing x y known other words w v) ∙ k)))

  left_answer : (words : List (List ℕ)) (x : X) (left : List (List ℕ)) (good : Bool) → read (record { words = words; good = true }) ≡ Ok (x, record { words = left; good = good }) → Found forms.known forms.slots words true (Ok (x, record { words = left; good = good })) → AnswersWords forms words ((ended left good >>= λ _. Ok x) >>= fitting forms)
  left_answer words x [] true e f = fits_answer x f.3 words (subst (λ s. WordsFit s words) (append-nil (forms.slots x)) ((f.2 refl).1 [] tt))
  left_answer words x [] false e f =
      stops_at_numbers forms words x f.3 (names_from_end x words (f.1 [] tt)) (omega (arith, f.0))
      (λ y known w. let a : X × Left = (x, record { words = []; good = false }) in let b : X × Left = (y, record { words = []; good = true }) in
      false≢true (ap (λ p. p.1.good) (same_in_ok a b (sym e ∙ spelled y known words w))))
  left_answer words x (word ∷ left) good e f =
      stops_at_length forms words x f.3 (names_from_end x words (f.1 [] tt))
      (λ y known n len. let none : suc (length left) ≡ 0 = (subst (Met [] (length (forms.slots y) ≡ length words)) e (met y known words n)).1 len in omega (arith, none))

  read_answer : (words : List (List ℕ)) (r : Result (X × Left) FileError) → read (record { words = words; good = true }) ≡ r → Found forms.known forms.slots words true r → AnswersWords forms words ((r >>= λ x. ended x.1.words x.1.good >>= λ _. Ok x.0) >>= fitting forms)
  read_answer words (Err kind) e (inl is) =
      subst (WordsFault forms words) (sym is)
      (stops_at_names forms words (λ x known n. cc (is, (subst (Met [] (length (forms.slots x) ≡ length words)) e (met x known words n)).0)))
  read_answer words (Err kind) e (inr is) =
      subst (WordsFault forms words) (sym is.0)
      (stops_at_length forms words is.1.0 is.1.2 (names_from_end is.1.0 words (is.1.1 []))
      (λ y known n len. (subst (Met [] (length (forms.slots y) ≡ length words)) e (met y known words n)).1 len))
  read_answer words (Ok x) e f = left_answer words x.0 x.1.words x.1.good e f

  words_answer : (words : List (List ℕ)) → AnswersWords forms words (whole read words >>= fitting forms)
  unfolding whole
  words_answer words = read_answer words (read (record { words = words; good = true })) refl (phrase.sound words true)

  words_are_read : (words : List (List ℕ)) (x : X) → AreWordsOf forms words x → (whole read words >>= fitting forms) ≡ Ok x
  unfolding whole
  words_are_read words x is =
      ap (λ r. (r >>= λ y. ended y.1.words y.1.good >>= λ _. Ok y.0) >>= fitting forms) (spelled x is.known words is.spelled)
      ∙ cond-true (forms.takes_kind x) _ (Err WrongKind) is.kind ∙ cond-true (forms.in_limits x) (Ok x) (Err forms.limit_fault) is.limits

  text_answer : (line : List ℕ) (r : Result X FileError) → IsUtf8 line → AnswersWords forms (words_of line) r → AnswersLine forms line r
  text_answer line (Ok x) text is = (text, is)
  text_answer line (Err kind) text is = inr (text, is)

  pub line_answer : (line : List ℕ) → AnswersLine forms line (line_of forms read line)
  unfolding line_of
  line_answer line = cond_both (is_utf8 line) (whole read (words_of line) >>= fitting forms) (Err BadText) (AnswersLine forms line)
      (λ t. text_answer line (whole read (words_of line) >>= fitting forms) (IsUtf8-from_is_utf8 line t) (words_answer (words_of line)))
      (λ t. inl (not_text line t, refl))

  pub line_is_read : (line : List ℕ) (x : X) → IsLineOf forms line x → line_of forms read line ≡ Ok x
  unfolding line_of
  line_is_read line x is = cond-true (is_utf8 line) (whole read (words_of line) >>= fitting forms) (Err BadText) (is_utf8-from_IsUtf8 line is.0) ∙ words_are_read (words_of line) x is.1

  same_fault : (line : List ℕ) (kind : FileError) (r : Result X FileError) → AnswersLine forms line r → LineFault forms line kind → r ≡ Err kind
  same_fault line kind (Ok x) is fault = absurd (line_or_fault forms line x kind is fault)
  same_fault line kind (Err other) is fault = ap Err (one_line_fault forms line other kind is fault)

  pub fault_is_read : (line : List ℕ) (kind : FileError) → LineFault forms line kind → line_of forms read line ≡ Err kind
  fault_is_read line kind fault = same_fault line kind (line_of forms read line) (line_answer line) fault
