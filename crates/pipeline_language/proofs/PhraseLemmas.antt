-- One line has one reading: its thing or its fault, and never both.
use Rattle.std.proofs.Common.{◌≡◌, ℕ, suc, List, [], ◌∷◌, length, refl, sym, ap, ◌∙◌, inl, inr, ◌⊎◌, ◌+◌, Bool, true, false, ◌++◌, Result, Ok, Err, subst, arith, map, Option, Some, None, ◌&&◌, if◌then◌else◌, ℤ, pos, negsuc, ◌≤ℤ◌, int_le, unsigned_abs}
use Rattle.file_words.specs.declared.fault.FileError.{FileError}
use Rattle.file_words.specs.declared.fault.FileError.TheVariants.{UnknownWord, BadArity, BadNumber, WrongKind}
use Rattle.file_words.specs.Words.{words_of, lowest, highest}
use Rattle.pipeline_language.specs.Form.{Slot, Name, EitherName, NameFits, WordFits, NamesFit, WordsFit, Forms, AreWordsOf, IsLineOf, Tests, NoTest, Test, FirstFault, tests, WordsFault, LineFault, all_known, Number, number, AnyWord}
use Rattle.std.{specs.Str.bytes_eq, proofs.lemmas.Slice.Eq.bytes_eq-Decides, specs.Int.Signed.le_z_yes, specs.Fmt.signed_decimal, proofs.lemmas.Float.T_from_true, proofs.lemmas.Int.ints}
use Rattle.std.proofs.lemmas.Bool.{and_from, and_parts, cond_both, cond-true, false≢true}
use Rattle.std.proofs.lemmas.List.{append-nil, append_assoc, length-append}
use Rattle.file_words.specs.WordReading.{◌>>=◌, Left, Reader, next_word, next_number, next_natural, number_at, number_of, numbers_from, with_first, all_numbers}
use Rattle.pipeline_language.specs.Reading.{ByName, nothing, both, named, made_of, unknown, by_name}
use Rattle.file_words.proofs.NumberLemmas.{number_of_number, number_is, fits_bounds, bounds_fit}
use Rattle.pipeline_language.specs.Syntax.{Plain, Within, Joint, joint_slots, joint_of}

-- a word that fits its place has the place's name
pub name_of_word : (slot : Slot) (word : List ℕ) → WordFits slot word → NameFits slot word
name_of_word (Name name) word fits = fits
name_of_word (EitherName name other) word fits = fits
name_of_word slot word fits = tt

pub names_of_words : (slots : List Slot) (words : List (List ℕ)) → WordsFit slots words → NamesFit slots words
names_of_words [] [] fits = tt
names_of_words [] (word ∷ words) fits = absurd fits
names_of_words (slot ∷ slots) [] fits = absurd fits
names_of_words (slot ∷ slots) (word ∷ words) fits = (name_of_word slot word fits.0, names_of_words slots words fits.1)

pub length_of_words : (slots : List Slot) (words : List (List ℕ)) → WordsFit slots words → length slots ≡ length words
length_of_words [] [] fits = refl
length_of_words [] (word ∷ words) fits = absurd fits
length_of_words (slot ∷ slots) [] fits = absurd fits
length_of_words (slot ∷ slots) (word ∷ words) fits = ap suc (length_of_words slots words fits.1)

-- The first fault is one fault.
pub one_fault : {X : Type 0} (all : Tests X) (before : X → Type 0) (j k : FileError) → FirstFault all before j → FirstFault all before k → j ≡ k
one_fault NoTest before j k f g = absurd f
one_fault (Test fault test more) before j k (inl f) (inl g) = f.0 ∙ sym g.0
one_fault (Test fault test more) before j k (inl f) (inr g) = absurd (f.1 g.0.0 g.0.1 g.0.2)
one_fault (Test fault test more) before j k (inr f) (inl g) = absurd (g.1 f.0.0 f.0.1 f.0.2)
one_fault (Test fault test more) before j k (inr f) (inr g) = one_fault more (λ x. before x × test x) j k f.1 g.1

-- What passes every test is no fault.
abbrev PassesAll : {X : Type 0} → Tests X → X → Type 0
PassesAll NoTest x = Unit {0}
PassesAll (Test fault test more) x = test x × PassesAll more x

no_fault : {X : Type 0} (all : Tests X) (before : X → Type 0) (x : X) (k : FileError) → before x → PassesAll all x → FirstFault all before k → ⊥
no_fault NoTest before x k was passes f = f
no_fault (Test fault test more) before x k was passes (inl f) = f.1 x was passes.0
no_fault (Test fault test more) before x k was passes (inr f) = no_fault more (λ x. before x × test x) x k (was, passes.0) passes.1 f.1

pub words_or_fault : {X : Type 0} (forms : Forms X) (words : List (List ℕ)) (x : X) (k : FileError) → AreWordsOf forms words x → WordsFault forms words k → ⊥
words_or_fault forms words x k is f = no_fault (tests forms words) (λ x. Unit {0}) x k tt
    ((is.known, names_of_words (forms.slots x) words is.spelled), (length_of_words (forms.slots x) words is.spelled, (is.spelled, (is.kind, (is.limits, tt))))) f

pub line_or_fault : {X : Type 0} (forms : Forms X) (line : List ℕ) (x : X) (k : FileError) → IsLineOf forms line x → LineFault forms line k → ⊥
line_or_fault forms line x k is (inl f) = f.0 is.0
line_or_fault forms line x k is (inr f) = words_or_fault forms (words_of line) x k is.1 f.1

pub one_line_fault : {X : Type 0} (forms : Forms X) (line : List ℕ) (j k : FileError) → LineFault forms line j → LineFault forms line k → j ≡ k
one_line_fault forms line j k (inl f) (inl g) = f.1 ∙ sym g.1
one_line_fault forms line j k (inl f) (inr g) = absurd (f.0 g.0)
one_line_fault forms line j k (inr f) (inl g) = absurd (g.0 f.0)
one_line_fault forms line j k (inr f) (inr g) = one_fault (tests forms (words_of line)) (λ x. Unit {0}) j k f.1 g.1

-- Where each test stops.
module _ {X : Type 0} (forms : Forms X) (words : List (List ℕ)) where
  pub stops_at_names : ((x : X) → forms.known x ≡ true → NamesFit (forms.slots x) words → ⊥) → WordsFault forms words UnknownWord
  stops_at_names none = inl (refl, λ x was test. none x test.0 test.1)

  pub stops_at_length : (x : X) → forms.known x ≡ true → NamesFit (forms.slots x) words → ((x : X) → forms.known x ≡ true → NamesFit (forms.slots x) words → length (forms.slots x) ≡ length words → ⊥) → WordsFault forms words BadArity
  stops_at_length x known fits none =
      inr ((x, tt, (known, fits)), inl (refl, λ x was test. none x was.1.0 was.1.1 test))

  pub stops_at_numbers : (x : X) → forms.known x ≡ true → NamesFit (forms.slots x) words → length (forms.slots x) ≡ length words → ((x : X) → forms.known x ≡ true → WordsFit (forms.slots x) words → ⊥) → WordsFault forms words BadNumber
  stops_at_numbers x known fits len none =
      inr ((x, tt, (known, fits)), inr ((x, (tt, (known, fits)), len), inl (refl, λ x was test. none x was.0.1.0 test)))

  pub stops_at_kind : (x : X) → forms.known x ≡ true → WordsFit (forms.slots x) words → ((x : X) → forms.known x ≡ true → WordsFit (forms.slots x) words → forms.takes_kind x ≡ true → ⊥) → WordsFault forms words WrongKind
  stops_at_kind x known fits none =
      let names : (forms.known x ≡ true) × NamesFit (forms.slots x) words = (known, names_of_words (forms.slots x) words fits) in
      let len : length (forms.slots x) ≡ length words = length_of_words (forms.slots x) words fits in
      inr ((x, tt, names), inr ((x, (tt, names), len), inr ((x, ((tt, names), len), fits), inl (refl, λ x was test. none x was.0.0.1.0 was.1 test))))

  pub stops_at_limits : (x : X) → forms.known x ≡ true → WordsFit (forms.slots x) words → forms.takes_kind x ≡ true → ((x : X) → forms.known x ≡ true → WordsFit (forms.slots x) words → forms.takes_kind x ≡ true → forms.in_limits x ≡ true → ⊥) → WordsFault forms words forms.limit_fault
  stops_at_limits x known fits kind none =
      let names : (forms.known x ≡ true) × NamesFit (forms.slots x) words = (known, names_of_words (forms.slots x) words fits) in
      let len : length (forms.slots x) ≡ length words = length_of_words (forms.slots x) words fits in
      inr ((x, tt, names), inr ((x, (tt, names), len), inr ((x, ((tt, names), len), fits), inr ((x, (((tt, names), len), fits), kind), inl (refl, λ x was test. none x was.0.0.0.1.0 was.0.1 was.1 test)))))

-- Reading a thing's words, front by front: what is found, and that nothing else was there.

-- what may follow a thing: anything, or nothing
abbrev pub Anything : List Slot → Type 0
Anything more = Unit {0}

abbrev pub AtEnd : List Slot → Type 0
AtEnd more = more ≡ []

-- What was read stands at the front, and what was not has no name, or lacks words.
abbrev pub Found : {X : Type 0} → (X → Bool) → (X → List Slot) → List (List ℕ) → Bool → Result (X × Left) FileError → Type 0
Found {X} known slots words good (Err kind) = (kind ≡ UnknownWord) ⊎ ((kind ≡ BadArity) × ((x : X) × ((more : List Slot) → NamesFit (slots x ++ more) words) × (known x ≡ true)))
Found known slots words good (Ok r) = (length words ≡ length (slots r.0) + length r.1.words)
    × ((more : List Slot) → NamesFit more r.1.words → NamesFit (slots r.0 ++ more) words)
    × (r.1.good ≡ true → (good ≡ true) × ((more : List Slot) → WordsFit more r.1.words → WordsFit (slots r.0 ++ more) words))
    × (known r.0 ≡ true)

-- Where the names fit, no word is unknown, and what follows is left; where the words are enough too, so is what is left.
abbrev pub Met : {X : Type 0} → List Slot → Type 0 → Result (X × Left) FileError → Type 0
Met more enough (Err kind) = (kind ≡ BadArity) × (enough → ⊥)
Met more enough (Ok r) = NamesFit more r.1.words × (enough → length r.1.words ≡ length more)

-- Where they spell the thing, it is read.
abbrev pub Spelled : {X : Type 0} → List Slot → X → Bool → Result (X × Left) FileError → Type 0
Spelled more x good r = (rest : List (List ℕ)) × (r ≡ Ok (x, record { words = rest; good = good })) × WordsFit more rest

pub record Knows {X : Type 0} (follow : List Slot → Type 0) (read : Reader X) (slots : List Slot) (x : X) : Type 0 where
  pub met : (more : List Slot) → follow more → (words : List (List ℕ)) (good : Bool) → NamesFit (slots ++ more) words → Met more (length (slots ++ more) ≡ length words) (read (record { words = words; good = good }))
  pub spelled : (more : List Slot) → follow more → (words : List (List ℕ)) (good : Bool) → WordsFit (slots ++ more) words → Spelled more x good (read (record { words = words; good = good }))

pub record Phrase {X : Type 0} (follow : List Slot → Type 0) (known : X → Bool) (slots : X → List Slot) (read : Reader X) : Type 0 where
  pub some : (x : X) × (known x ≡ true)
  pub sound : (words : List (List ℕ)) (good : Bool) → Found known slots words good (read (record { words = words; good = good }))
  pub knows : (x : X) → known x ≡ true → Knows follow read (slots x) x

pub none_left : (slots : List Slot) → NamesFit slots []
none_left [] = tt
none_left (slot ∷ slots) = tt

met_if : {X : Type 0} (more : List Slot) {enough other : Type 0} (to : other → enough) (r : Result (X × Left) FileError) → Met more enough r → Met more other r
met_if more to (Err kind) m = (m.0, λ e. m.1 (to e))
met_if more to (Ok x) m = (m.0, λ e. m.1 (to e))

-- what is known of a thing stays known of what is made of it
pub met_made : {A X : Type 0} (more : List Slot) (enough : Type 0) (make : A → X) (r : Result (A × Left) FileError) → Met more enough r → Met more enough (r >>= λ a. Ok (make a.0, a.1))
met_made more enough make (Err kind) m = m
met_made more enough make (Ok a) m = m

-- what is known where a thing ends the line
pub at_end_knows : {X : Type 0} {read : Reader X} {slots : List Slot} {x : X} → ((words : List (List ℕ)) (good : Bool) → NamesFit slots words → Met [] (length slots ≡ length words) (read (record { words = words; good = good }))) → ((words : List (List ℕ)) (good : Bool) → WordsFit slots words → Spelled [] x good (read (record { words = words; good = good }))) → Knows AtEnd read slots x
at_end_knows {X} {read} {slots} {x} met spelled = record {
  met = λ more end words good. let e : slots ++ more ≡ slots = ap (λ m. slots ++ m) end ∙ append-nil slots in
      subst (λ m. NamesFit (slots ++ m) words → Met m (length (slots ++ m) ≡ length words) (read (record { words = words; good = good }))) (sym end)
      (subst (λ s. NamesFit s words → Met [] (length s ≡ length words) (read (record { words = words; good = good }))) (sym (append-nil slots)) (met words good));
  spelled = λ more end words good.
      subst (λ m. WordsFit (slots ++ m) words → Spelled m x good (read (record { words = words; good = good }))) (sym end)
      (subst (λ s. WordsFit s words → Spelled [] x good (read (record { words = words; good = good }))) (sym (append-nil slots)) (spelled words good));
}

-- nothing
pub nothing_phrase : Phrase Anything all_known (λ (x : Unit {0}). []) nothing
nothing_phrase = record {
  some = (tt, refl);
  sound = λ words good. (omega arith, (λ more n. n), (λ t. (t, λ more w. w)), refl);
  knows = λ x _. record { met = λ more f words good n. (n, λ e. sym e); spelled = λ more f words good w. (words, refl, w) };
}

-- one thing after another
module _ {A B : Type 0} {ka : A → Bool} {kb : B → Bool} {sa : A → List Slot} {sb : B → List Slot} {ra : Reader A} {rb : Reader B} (pa : Phrase Anything ka sa ra) (pb : Phrase Anything kb sb rb) where
  abbrev pair_known : A × B → Bool
  pair_known p = ka p.0 && kb p.1

  abbrev pair_slots : A × B → List Slot
  pair_slots p = sa p.0 ++ sb p.1

  abbrev second : A × Left → Result ((A × B) × Left) FileError
  second a = rb a.1 >>= λ b. Ok ((a.0, b.0), b.1)

  second_found : (words : List (List ℕ)) (good : Bool) (a : A × Left) → Found ka sa words good (Ok a) → (r : Result (B × Left) FileError) → Found kb sb a.1.words a.1.good r → Found pair_known pair_slots words good (r >>= λ b. Ok ((a.0, b.0), b.1))
  second_found words good a f (Err kind) (inl e) = inl e
  second_found words good a f (Err kind) (inr e) = inr (e.0, ((a.0, e.1.0), (λ more. rw append_assoc (f.1 (sb e.1.0 ++ more) (e.1.1 more))), and_from (ka a.0) (kb e.1.0) f.3 e.1.2))
  second_found words good a f (Ok b) g = (
    omega (arith, f.0, g.0, length-append (sa a.0) (sb b.0)),
    (λ more n. rw append_assoc (f.1 (sb b.0 ++ more) (g.1 more n))),
    (λ t. let h = g.2 t in let k = f.2 h.0 in (k.0, λ more w. rw append_assoc (k.1 (sb b.0 ++ more) (h.1 more w)))),
    and_from (ka a.0) (kb b.0) f.3 g.3,
  )

  first_found : (words : List (List ℕ)) (good : Bool) (r : Result (A × Left) FileError) → Found ka sa words good r → Found pair_known pair_slots words good (r >>= second)
  first_found words good (Err kind) (inl e) = inl e
  first_found words good (Err kind) (inr e) = let b = pb.some in
      inr (e.0, ((e.1.0, b.0), (λ more. rw append_assoc (e.1.1 (sb b.0 ++ more))), and_from (ka e.1.0) (kb b.0) e.1.2 b.1))
  first_found words good (Ok a) f = second_found words good a f (rb a.1) (pb.sound a.1.words a.1.good)

  first_met : (more : List Slot) (b : B) → kb b ≡ true → (enough : Type 0) (r : Result (A × Left) FileError) → Met (sb b ++ more) enough r → Met more enough (r >>= second)
  first_met more b known enough (Err kind) m = m
  first_met more b known enough (Ok a) m = met_made more enough (λ c. (a.0, c)) (rb a.1) (met_if more (λ e. sym (m.1 e)) (rb a.1) ((pb.knows b known).met more tt a.1.words a.1.good m.0))

  pair_knows : (p : A × B) → pair_known p ≡ true → Knows Anything (both ra rb) (pair_slots p) p
  pair_knows p known =
      let a : A = p.0 in let b : B = p.1 in
      let parts = and_parts (ka a) (kb b) known in
      let first = pa.knows a parts.0 in let other = pb.knows b parts.1 in
      record {
        met = λ more f words good.
            let left : Left = record { words = words; good = good } in
            subst (λ s. NamesFit s words → Met more (length s ≡ length words) (both ra rb left)) (sym (append_assoc (sa a) (sb b) more))
            (λ n. first_met more b parts.1 (length (sa a ++ (sb b ++ more)) ≡ length words) (ra left) (first.met (sb b ++ more) tt words good n));
        spelled = λ more f words good w.
            let k = first.spelled (sb b ++ more) tt words good (subst (λ s. WordsFit s words) (append_assoc (sa a) (sb b) more) w) in
            let h = other.spelled more f k.0 good k.2 in
            (h.0, ap (λ r. r >>= second) k.1 ∙ ap (λ r. r >>= λ c. Ok ((a, c.0), c.1)) h.1, h.2);
      }

  pub both_phrase : Phrase Anything pair_known pair_slots (both ra rb)
  both_phrase = record {
    some = ((pa.some.0, pb.some.0), and_from (ka pa.some.0) (kb pb.some.0) pa.some.1 pb.some.1);
    sound = λ words good. first_found words good (ra (record { words = words; good = good })) (pa.sound words good);
    knows = pair_knows;
  }

-- A name's row: what is made of the things behind it.
pub record Row {X : Type 0} (follow : List Slot → Type 0) (known : X → Bool) (slots : X → List Slot) (word : List ℕ) (read : Reader X) : Type 1 where
  pub Behind : Type 0
  pub all : Behind → Bool
  pub rest : Behind → List Slot
  pub reads_rest : Reader Behind
  pub make : Behind → X
  pub slot : Slot
  pub fits : WordFits slot word
  pub form : (a : Behind) → slots (make a) ≡ slot ∷ rest a
  pub keeps : (a : Behind) → all a ≡ true → known (make a) ≡ true
  pub phrase : Phrase follow all rest reads_rest
  pub reads : (left : Left) → read left ≡ (reads_rest left >>= λ a. Ok (make a.0, a.1))

-- what a word leads to among names
pub data Lead {X : Type 0} (follow : List Slot → Type 0) (known : X → Bool) (slots : X → List Slot) (word : List ℕ) (read : Reader X) : Type 1 where
  To : Row follow known slots word read → Lead follow known slots word read
  Nowhere : ((left : Left) → read left ≡ Err UnknownWord) → Lead follow known slots word read

pub record Leads {X : Type 0} (follow : List Slot → Type 0) (known : X → Bool) (slots : X → List Slot) (names : ByName X) : Type 1 where
  pub at : (word : List ℕ) → Lead follow known slots word (names word)

abbrev pub no_leads : {X : Type 0} {follow : List Slot → Type 0} {known : X → Bool} {slots : X → List Slot} → Leads follow known slots unknown
no_leads = record { at = λ word. Nowhere (λ left. refl) }

-- a name in front of others
module _ {A X : Type 0} {follow : List Slot → Type 0} {ka : A → Bool} {known : X → Bool} {sa : A → List Slot} {slots : X → List Slot} {ra : Reader A} where
  abbrev tested : {others : ByName X} (name : List ℕ) (make : A → X) (slot : Slot) → WordFits slot name → ((a : A) → slots (make a) ≡ slot ∷ sa a) → ((a : A) → ka a ≡ true → known (make a) ≡ true) → Phrase follow ka sa ra → Leads follow known slots others → (word : List ℕ) (t : Bool) → bytes_eq word name ≡ t → Lead follow known slots word (λ left. if t then (ra left >>= λ a. Ok (make a.0, a.1)) else others word left)
  tested name make slot fits form keeps pa more word true is = To (record { Behind = A; all = ka; rest = sa; reads_rest = ra; make = make; slot = slot; fits = subst (WordFits slot) (sym ((bytes_eq-Decides word name).0 is)) fits; form = form; keeps = keeps; phrase = pa; reads = λ left. refl })
  tested name make slot fits form keeps pa more word false is = more.at word

  abbrev pub name_lead : {others : ByName X} (name : List ℕ) (make : A → X) → ((a : A) → slots (make a) ≡ Name name ∷ sa a) → ((a : A) → ka a ≡ true → known (make a) ≡ true) → Phrase follow ka sa ra → Leads follow known slots others → Leads follow known slots (named name make ra others)
  name_lead name make form keeps pa more = record { at = λ word. tested name make (Name name) refl form keeps pa more word (bytes_eq word name) refl }

  -- either of two names
  abbrev pub either_lead : {others : ByName X} (one other : List ℕ) (make : A → X) → ((a : A) → slots (make a) ≡ EitherName one other ∷ sa a) → ((a : A) → ka a ≡ true → known (make a) ≡ true) → Phrase follow ka sa ra → Leads follow known slots others → Leads follow known slots (named one make ra (named other make ra others))
  either_lead one other make form keeps pa more = record {
    at = λ word.
        tested one make (EitherName one other) (inl refl) form keeps pa (record { at = λ word. tested other make (EitherName one other) (inr refl) form keeps pa more word (bytes_eq word other) refl }) word (bytes_eq word one) refl;
  }

pub made_twice : {A B X : Type 0} (first : B → A) (make : A → X) (r : Result (B × Left) FileError) → ((r >>= λ b. let a : Result (A × Left) FileError = Ok (first b.0, b.1) in a) >>= λ a. let x : Result (X × Left) FileError = Ok (make a.0, a.1) in x) ≡ (r >>= λ b. Ok (make (first b.0), b.1))
made_twice first make (Err kind) = refl
made_twice first make (Ok b) = refl

-- Things by the names of what they are made of.
module _ {A X : Type 0} {follow : List Slot → Type 0} {ka : A → Bool} {known : X → Bool} {sa : A → List Slot} {slots : X → List Slot} (make : A → X) (form : (a : A) → slots (make a) ≡ sa a) (keeps : (a : A) → ka a ≡ true → known (make a) ≡ true) where
  abbrev made_lead : {word : List ℕ} {read : Reader A} → Lead follow ka sa word read → Lead follow known slots word (λ left. read left >>= λ a. Ok (make a.0, a.1))
  made_lead (To row) = To (record { Behind = row.Behind; all = row.all; rest = row.rest; reads_rest = row.reads_rest; make = λ b. make (row.make b); slot = row.slot; fits = row.fits; form = λ b. form (row.make b) ∙ row.form b; keeps = λ b k. keeps (row.make b) (row.keeps b k); phrase = row.phrase; reads = λ left. ap (λ r. r >>= λ a. Ok (make a.0, a.1)) (row.reads left) ∙ made_twice row.make make (row.reads_rest left) })
  made_lead (Nowhere none) = Nowhere (λ left. ap (λ r. r >>= λ a. Ok (make a.0, a.1)) (none left))

  abbrev pub made_of_leads : {names : ByName A} → Leads follow ka sa names → Leads follow known slots (made_of make names)
  made_of_leads leads = record { at = λ word. made_lead (leads.at word) }

module _ {X : Type 0} {follow : List Slot → Type 0} {known : X → Bool} {slots : X → List Slot} where
  -- what is found behind a word
  row_found : {word : List ℕ} {read : Reader X} (row : Row follow known slots word read) (words : List (List ℕ)) (good : Bool) (r : Result (row.Behind × Left) FileError) → Found row.all row.rest words good r → Found known slots (word ∷ words) good (r >>= λ a. Ok (row.make a.0, a.1))
  row_found row words good (Err kind) (inl e) = inl e
  row_found {word} row words good (Err kind) (inr e) = inr (e.0, (row.make e.1.0, (λ more. subst (λ s. NamesFit (s ++ more) (word ∷ words)) (sym (row.form e.1.0)) (name_of_word row.slot word row.fits, e.1.1 more)), row.keeps e.1.0 e.1.2))
  row_found {word} row words good (Ok a) f = (
    omega (arith, f.0, ap length (row.form a.0)),
    (λ more n. subst (λ s. NamesFit (s ++ more) (word ∷ words)) (sym (row.form a.0)) (name_of_word row.slot word row.fits, f.1 more n)),
    (λ t. let h = f.2 t in (h.0, λ more w. subst (λ s. WordsFit (s ++ more) (word ∷ words)) (sym (row.form a.0)) (row.fits, h.1 more w))),
    row.keeps a.0 f.3,
  )

  lead_found : {word : List ℕ} {read : Reader X} → Lead follow known slots word read → (words : List (List ℕ)) (good : Bool) → Found known slots (word ∷ words) good (read (record { words = words; good = good }))
  lead_found {word} (To row) words good = let left : Left = record { words = words; good = good } in
      subst (Found known slots (word ∷ words) good) (sym (row.reads left)) (row_found row words good (row.reads_rest left) (row.phrase.sound words good))
  lead_found {word} (Nowhere none) words good = subst (Found known slots (word ∷ words) good) (sym (none (record { words = words; good = good }))) (inl refl)

  -- A word leads to x, with what stands behind the word.
  abbrev pub LeadsTo : {word : List ℕ} {read : Reader X} → Lead follow known slots word read → List Slot → X → Type 0
  LeadsTo (To row) rest x = (a : row.Behind) × (row.rest a ≡ rest) × (row.make a ≡ x) × (row.all a ≡ true)
  LeadsTo (Nowhere none) rest x = ⊥

  lead_knows : {word : List ℕ} {read : Reader X} (lead : Lead follow known slots word read) (rest : List Slot) (x : X) → LeadsTo lead rest x → Knows follow read rest x
  lead_knows {word} {read} (To row) rest x l =
      let k = row.phrase.knows l.0 l.3 in
      subst (λ s. Knows follow read s x) l.1 (subst (Knows follow read (row.rest l.0)) l.2 (record {
        met = λ more f words good n. let left : Left = record { words = words; good = good } in
            subst (Met more (length (row.rest l.0 ++ more) ≡ length words)) (sym (row.reads left)) (met_made more (length (row.rest l.0 ++ more) ≡ length words) row.make (row.reads_rest left) (k.met more f words good n));
        spelled = λ more f words good w. let h = k.spelled more f words good w in
            (h.0, row.reads (record { words = words; good = good }) ∙ ap (λ r. r >>= λ a. Ok (row.make a.0, a.1)) h.1, h.2);
      }))
  lead_knows (Nowhere none) rest x l = absurd l

  module _ {names : ByName X} (leads : Leads follow known slots names) where
    slot_knows : (slot : Slot) (rest : List Slot) (x : X) → ((word : List ℕ) → NameFits slot word → LeadsTo (leads.at word) rest x) → Knows follow (by_name names) (slot ∷ rest) x
    unfolding next_word
    slot_knows slot rest x to = record { met = met; spelled = spelled }
      where
        met : (more : List Slot) → follow more → (words : List (List ℕ)) (good : Bool) → NamesFit (slot ∷ rest ++ more) words → Met more (length (slot ∷ rest ++ more) ≡ length words) (by_name names (record { words = words; good = good }))
        met more f [] good n = (refl, λ e. absurd (omega (arith, e)))
        met more f (word ∷ words) good n = met_if more (λ e. omega (arith, e)) _ ((lead_knows (leads.at word) rest x (to word n.0)).met more f words good n.1)

        spelled : (more : List Slot) → follow more → (words : List (List ℕ)) (good : Bool) → WordsFit (slot ∷ rest ++ more) words → Spelled more x good (by_name names (record { words = words; good = good }))
        spelled more f [] good w = absurd w
        spelled more f (word ∷ words) good w = (lead_knows (leads.at word) rest x (to word (name_of_word slot word w.0))).spelled more f words good w.1

    pub named_knows : {name : List ℕ} {rest : List Slot} {x : X} → LeadsTo (leads.at name) rest x → Knows follow (by_name names) (Name name ∷ rest) x
    named_knows {name} {rest} {x} l = slot_knows (Name name) rest x (λ word is. subst (λ w. LeadsTo (leads.at w) rest x) (sym is) l)

    pub either_knows : {one other : List ℕ} {rest : List Slot} {x : X} → LeadsTo (leads.at one) rest x → LeadsTo (leads.at other) rest x → Knows follow (by_name names) (EitherName one other ∷ rest) x
    either_knows {one} {other} {rest} {x} l m = slot_knows (EitherName one other) rest x by_name_of
      where
        by_name_of : (word : List ℕ) → (word ≡ one) ⊎ (word ≡ other) → LeadsTo (leads.at word) rest x
        by_name_of word (inl is) = subst (λ w. LeadsTo (leads.at w) rest x) (sym is) l
        by_name_of word (inr is) = subst (λ w. LeadsTo (leads.at w) rest x) (sym is) m

    -- A reader by names reads what its names lead to.
    pub by_name_phrase : (x0 : X) → known x0 ≡ true → ((x : X) → known x ≡ true → Knows follow (by_name names) (slots x) x) → Phrase follow known slots (by_name names)
    unfolding next_word
    by_name_phrase x0 is knows = record { some = (x0, is); sound = sound; knows = knows }
      where
        sound : (words : List (List ℕ)) (good : Bool) → Found known slots words good (by_name names (record { words = words; good = good }))
        sound [] good = inr (refl, (x0, (λ more. none_left (slots x0 ++ more)), is))
        sound (word ∷ words) good = lead_found (leads.at word) words good

-- What stands before anything also stands at the end.
pub at_end : {X : Type 0} {known : X → Bool} {slots : X → List Slot} {read : Reader X} → Phrase Anything known slots read → Phrase AtEnd known slots read
at_end p = record { some = p.some; sound = p.sound; knows = λ x known. let k = p.knows x known in record { met = λ more f. k.met more tt; spelled = λ more f. k.spelled more tt } }

-- Numbers in their places.

le_true : (a b : ℤ) → a ≤ℤ b → int_le a b ≡ true
le_true a b h = grind (arith, ints, h)

-- a number of a range
module _ (low high : ℤ) (above : lowest ≤ℤ low) (below : high ≤ℤ highest) where
  abbrev in_range : ℤ → List Slot
  in_range n = Number low high n ∷ []

  found_at : (word : List ℕ) (words : List (List ℕ)) (good : Bool) (o : Option ℤ) → number_of word ≡ o → Found all_known in_range (word ∷ words) good (Ok (number_at low high (record { words = words; good = good }) o))
  found_at word words good None is = (omega arith, (λ more n. (tt, n)), (λ t. absurd (false≢true t)), refl)
  found_at word words good (Some n) is = cond_both {A = ℤ × Left} (int_le low n && int_le n high) (n, record { words = words; good = good }) (low, record { words = words; good = false }) (λ r. Found all_known in_range (word ∷ words) good (Ok r))
      (λ t. let p = and_parts _ _ t in
      (omega arith, (λ more k. (tt, k)), (λ g. (g, λ more w. ((le_z_yes (T_from_true _ p.0), le_z_yes (T_from_true _ p.1), (number_is word n is).1), w))), refl))
      (λ t. (omega arith, (λ more k. (tt, k)), (λ g. absurd (false≢true g)), refl))

  words_at : (words : List (List ℕ)) (good : Bool) (o : Option ℤ) → (number_at low high (record { words = words; good = good }) o).1.words ≡ words
  words_at words good None = refl
  words_at words good (Some n) = cond_both {A = ℤ × Left} (int_le low n && int_le n high) (n, record { words = words; good = good }) (low, record { words = words; good = false }) (λ r. r.1.words ≡ words) (λ t. refl) (λ t. refl)

  number_sound : (words : List (List ℕ)) (good : Bool) → Found all_known in_range words good (next_number low high (record { words = words; good = good }))
  unfolding next_number next_word
  number_sound [] good = inr (refl, (low, (λ more. tt), refl))
  number_sound (word ∷ words) good = found_at word words good (number_of word) refl

  number_met : (n : ℤ) (more : List Slot) → Anything more → (words : List (List ℕ)) (good : Bool) → NamesFit (in_range n ++ more) words → Met more (length (in_range n ++ more) ≡ length words) (next_number low high (record { words = words; good = good }))
  unfolding next_number next_word
  number_met n more f [] good k = (refl, λ len. absurd (omega (arith, len)))
  number_met n more f (word ∷ words) good k =
      let same = words_at words good (number_of word) in (subst (NamesFit more) (sym same) k.1, λ len. omega (arith, len, ap length same))

  number_spelled : (n : ℤ) (more : List Slot) → Anything more → (words : List (List ℕ)) (good : Bool) → WordsFit (in_range n ++ more) words → Spelled more n good (next_number low high (record { words = words; good = good }))
  unfolding next_number next_word
  number_spelled n more f [] good w = absurd w
  number_spelled n more f (word ∷ words) good w =
      let left : Left = record { words = words; good = good } in
      let wide_low : lowest ≤ℤ n = omega (arith, ints, above, w.0.0) in
      let wide_high : n ≤ℤ highest = omega (arith, ints, below, w.0.1) in
      let read : number_of word ≡ Some n = number_of_number word n (bounds_fit n wide_low wide_high, w.0.2) in
      let tested : (int_le low n && int_le n high) ≡ true = and_from _ _ (le_true low n w.0.0) (le_true n high w.0.1) in
      let at : number_at low high left (number_of word) ≡ (n, left) = ap (number_at low high left) read ∙ cond-true (int_le low n && int_le n high) (n, left) (low, record { words = words; good = false }) tested in
      (words, ap (λ r. let found : Result (ℤ × Left) FileError = Ok r in found) at, w.1)

  pub number_phrase : Phrase Anything all_known in_range (next_number low high)
  number_phrase = record { some = (low, refl); sound = number_sound; knows = λ n _. record { met = number_met n; spelled = number_spelled n } }

-- a number of a range that has no negative ones
module _ (high : ℤ) (below : high ≤ℤ highest) where
  abbrev natural_slots : ℕ → List Slot
  natural_slots n = Number (pos 0) high (pos n) ∷ []

  any_number : Phrase Anything all_known (λ n. Number (pos 0) high n ∷ []) (next_number (pos 0) high)
  any_number = number_phrase (pos 0) high (le_z_yes tt) below

  same_names : (m n : ℤ) (more : List Slot) (words : List (List ℕ)) → NamesFit (Number (pos 0) high m ∷ more) words → NamesFit (Number (pos 0) high n ∷ more) words
  same_names m n more [] k = tt
  same_names m n more (word ∷ words) k = k

  as_natural : (z : ℤ) (more : List Slot) (words : List (List ℕ)) → WordsFit (Number (pos 0) high z ∷ more) words → WordsFit (natural_slots (unsigned_abs z) ++ more) words
  as_natural z more [] w = absurd w
  as_natural (pos n) more (word ∷ words) w = w
  as_natural (negsuc n) more (word ∷ words) w = absurd (omega (arith, ints, w.0.0))

  natural_found : (words : List (List ℕ)) (good : Bool) (r : Result (ℤ × Left) FileError) → Found all_known (λ n. Number (pos 0) high n ∷ []) words good r → Found all_known natural_slots words good (r >>= λ n. Ok (unsigned_abs n.0, n.1))
  natural_found words good (Err kind) (inl e) = inl e
  natural_found words good (Err kind) (inr e) = inr (e.0, (unsigned_abs e.1.0, (λ more. same_names e.1.0 (pos (unsigned_abs e.1.0)) more words (e.1.1 more)), refl))
  natural_found words good (Ok r) f =
      (f.0, (λ more k. same_names r.0 (pos (unsigned_abs r.0)) more words (f.1 more k)), (λ t. let h = f.2 t in (h.0, λ more w. as_natural r.0 more words (h.1 more w))), refl)

  pub natural_phrase : Phrase Anything all_known natural_slots (next_natural high)
  unfolding next_natural
  natural_phrase = record {
    some = (0, refl);
    sound = λ words good. natural_found words good (next_number (pos 0) high (record { words = words; good = good })) (any_number.sound words good);
    knows = λ n _. let k = any_number.knows (pos n) refl in record {
      met = λ more f words good m. met_made more (length (natural_slots n ++ more) ≡ length words) unsigned_abs (next_number (pos 0) high (record { words = words; good = good })) (k.met more f words good m);
      spelled = λ more f words good w. let h = k.spelled more f words good w in (h.0, ap (λ r. r >>= λ n. Ok (unsigned_abs n.0, n.1)) h.1, h.2);
    };
  }

-- all the numbers that are left
number_in_place : (word : List ℕ) (n : ℤ) → number_of word ≡ Some n → (lowest ≤ℤ n) × (n ≤ℤ highest) × (word ≡ signed_decimal n)
number_in_place word n is = let k = number_is word n is in let b = fits_bounds n k.0 in (b.0, b.1, k.1)

abbrev number_list : List ℤ → List Slot
number_list ns = map number ns

found_first : (word : List ℕ) (words : List (List ℕ)) (good : Bool) (o : Option ℤ) → number_of word ≡ o → ((g : Bool) → Found all_known number_list words g (Ok (numbers_from words g))) → Found all_known number_list (word ∷ words) good (Ok (with_first o good (numbers_from words)))
found_first word words good (Some n) is found =
    let f = found good in
    (omega (arith, f.0), (λ more k. (tt, f.1 more k)), (λ t. let h = f.2 t in (h.0, λ more w. (number_in_place word n is, h.1 more w))), refl)
found_first word words good None is found =
    let f = found false in
    (omega (arith, f.0), (λ more k. (tt, f.1 more k)), (λ t. absurd (false≢true (f.2 t).0)), refl)

all_found : (words : List (List ℕ)) (good : Bool) → Found all_known number_list words good (Ok (numbers_from words good))
all_found [] good = (omega arith, (λ more n. n), (λ t. (t, λ more w. w)), refl)
all_found (word ∷ words) good = found_first word words good (number_of word) refl (all_found words)

none_first : (words : List (List ℕ)) (good : Bool) (o : Option ℤ) → ((g : Bool) → (numbers_from words g).1.words ≡ []) → (with_first o good (numbers_from words)).1.words ≡ []
none_first words good (Some n) none = none good
none_first words good None none = none false

none_after : (words : List (List ℕ)) (good : Bool) → (numbers_from words good).1.words ≡ []
none_after [] good = refl
none_after (word ∷ words) good = none_first words good (number_of word) (none_after words)

all_read : (ns : List ℤ) (words : List (List ℕ)) (good : Bool) → WordsFit (number_list ns) words → numbers_from words good ≡ (ns, record { words = []; good = good })
all_read [] [] good w = refl
all_read [] (word ∷ words) good w = absurd w
all_read (n ∷ ns) [] good w = absurd w
all_read (n ∷ ns) (word ∷ words) good w =
    let read : number_of word ≡ Some n = number_of_number word n (bounds_fit n w.0.0 w.0.1, w.0.2) in
    ap (λ o. with_first o good (numbers_from words)) read ∙ ap (λ r. let found : List ℤ × Left = (n ∷ r.0, r.1) in found) (all_read ns words good w.1)

pub all_numbers_phrase : Phrase AtEnd all_known number_list all_numbers
unfolding all_numbers
all_numbers_phrase = record {
  some = ([], refl);
  sound = all_found;
  knows = λ ns _. at_end_knows (λ words good k. (tt, λ len. ap length (none_after words good)))
      (λ words good w. ([], ap (λ r. let found : Result (List ℤ × Left) FileError = Ok r in found) (all_read ns words good w), tt));
}

-- Words that may be any.

abbrev word_slots : List ℕ → List Slot
word_slots text = AnyWord text ∷ []

word_sound : (words : List (List ℕ)) (good : Bool) → Found all_known word_slots words good (next_word (record { words = words; good = good }))
unfolding next_word
word_sound [] good = inr (refl, ([], (λ more. tt), refl))
word_sound (word ∷ words) good = (omega arith, (λ more n. (tt, n)), (λ t. (t, λ more w. (refl, w))), refl)

word_met : (text : List ℕ) (more : List Slot) → Anything more → (words : List (List ℕ)) (good : Bool) → NamesFit (word_slots text ++ more) words → Met more (length (word_slots text ++ more) ≡ length words) (next_word (record { words = words; good = good }))
unfolding next_word
word_met text more f [] good n = (refl, λ len. absurd (omega (arith, len)))
word_met text more f (word ∷ words) good n = (n.1, λ len. omega (arith, len))

word_spelled : (text : List ℕ) (more : List Slot) → Anything more → (words : List (List ℕ)) (good : Bool) → WordsFit (word_slots text ++ more) words → Spelled more text good (next_word (record { words = words; good = good }))
unfolding next_word
word_spelled text more f [] good w = absurd w
word_spelled text more f (word ∷ words) good w = (words, ap (λ t. let found : Result (List ℕ × Left) FileError = Ok (t, record { words = words; good = good }) in found) w.0, w.1)

pub word_phrase : Phrase Anything all_known word_slots next_word
word_phrase = record { some = ([], refl); sound = word_sound; knows = λ text _. record { met = word_met text; spelled = word_spelled text } }

-- what follows the name `joining`
joint_sound : (words : List (List ℕ)) (good : Bool) → Found all_known joint_slots words good (joint_of (record { words = words; good = good }))
unfolding joint_of next_word
joint_sound [] good = inr (refl, (Plain [], (λ more. tt), refl))
joint_sound (between ∷ []) good = (refl, (λ more n. (tt, n)), (λ t. (t, λ more w. (refl, w))), refl)
joint_sound (between ∷ front ∷ []) good = inr (refl, (Within between front [], (λ more. (tt, (tt, tt))), refl))
joint_sound (between ∷ front ∷ back ∷ words) good = (omega arith, (λ more n. (tt, (tt, (tt, n)))), (λ t. (t, λ more w. (refl, (refl, (refl, w))))), refl)

joint_met : (joint : Joint) (words : List (List ℕ)) (good : Bool) → Met [] (length (joint_slots joint) ≡ length words) (joint_of (record { words = words; good = good }))
unfolding joint_of next_word
joint_met (Plain d) [] good = (refl, λ len. absurd (omega (arith, len)))
joint_met (Plain d) (between ∷ []) good = (tt, λ len. refl)
joint_met (Plain d) (between ∷ front ∷ []) good = (refl, λ len. absurd (omega (arith, len)))
joint_met (Plain d) (between ∷ front ∷ back ∷ words) good = (tt, λ len. absurd (omega (arith, len)))
joint_met (Within d p s) [] good = (refl, λ len. absurd (omega (arith, len)))
joint_met (Within d p s) (between ∷ []) good = (tt, λ len. refl)
joint_met (Within d p s) (between ∷ front ∷ []) good = (refl, λ len. absurd (omega (arith, len)))
joint_met (Within d p s) (between ∷ front ∷ back ∷ words) good = (tt, λ len. omega (arith, len))

abbrev read_all : Joint → Bool → Result (Joint × Left) FileError
read_all joint good = Ok (joint, record { words = []; good = good })

joint_spelled : (joint : Joint) (words : List (List ℕ)) (good : Bool) → WordsFit (joint_slots joint) words → Spelled [] joint good (joint_of (record { words = words; good = good }))
unfolding joint_of next_word
joint_spelled (Plain d) [] good w = absurd w
joint_spelled (Plain d) (between ∷ []) good w = ([], ap (λ t. read_all (Plain t) good) w.0, tt)
joint_spelled (Plain d) (between ∷ front ∷ words) good w = absurd w.1
joint_spelled (Within d p s) [] good w = absurd w
joint_spelled (Within d p s) (between ∷ []) good w = absurd w.1
joint_spelled (Within d p s) (between ∷ front ∷ []) good w = absurd w.1.1
joint_spelled (Within d p s) (between ∷ front ∷ back ∷ []) good w =
    ([], ap (λ t. read_all (Within t front back) good) w.0 ∙ ap (λ t. read_all (Within d t back) good) w.1.0 ∙ ap (λ t. read_all (Within d p t) good) w.1.1.0, tt)
joint_spelled (Within d p s) (between ∷ front ∷ back ∷ word ∷ words) good w = absurd w.1.1.1

pub joint_phrase : Phrase AtEnd all_known joint_slots joint_of
joint_phrase = record { some = (Plain [], refl); sound = joint_sound; knows = λ joint _. at_end_knows (λ words good n. joint_met joint words good) (joint_spelled joint) }
