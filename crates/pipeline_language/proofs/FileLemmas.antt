-- The stage lines and the terminal line: what reading answers is what they are.
use Rattle.std.proofs.Common.{◌≡◌, ℕ, ◌+◌, List, [], ◌∷◌, ◌++◌, length, drop, Result, Ok, Err, refl, sym, ap, ◌∙◌, inl, inr, arith, ◌⊎◌, zero, suc, ◌-◌, ◌<◌, ◌≤◌, true, false, IfOk, IfErr, subst, IsUtf8, nat_lt}
use Rattle.std.specs.Str.{is_utf8, bytes_eq, chars}
use Rattle.std.proofs.lemmas.Bool.{cond_both, cond-true, cond-false, false_from_ne_true, le-ltb, lt-ltb, ltb-true, ltb-false, false≢true}
use Rattle.std.proofs.lemmas.List.{append-nil, append_assoc, length-append}
use Rattle.std.proofs.lemmas.Str.{is_utf8-from_IsUtf8, IsUtf8-from_is_utf8}
use Rattle.file_words.specs.{declared.fault.FileError.FileError, declared.fault.FileFault.FileFault, WordReading.◌>>=◌, declared.fault.ReadError.ReadError, Words.lines_of}
use Rattle.file_words.specs.declared.fault.FileError.TheVariants.{BadText, AfterTerminal, TooLarge, BadVersion, MissingTerminal}
use Rattle.pipeline_language.specs.Content.{Body, program_of}
use Rattle.pipeline_language.specs.{Form.IsLineOf, Reading.line_of, declared.pipeline.Pipeline.Pipeline, declared.version.Version.Version}
use Rattle.pipeline_language.specs.Syntax.{Stage, Terminal, BodyLine, Coming, after_stage, bodies, body_of, Origin, origins, text_count, Program, origin_words}
use Rattle.pipeline_language.specs.Language.{AreStageLines, after_stages, Place, BodyPlace, EndPlace, FaultAt, FaultOfNext, first_line, VersionFault, VersionPlace, SourcePlace, TextPlace, LeadsTo, IsProgramOf, AreTexts, IsBeginningOfTexts, IsBeginningOf, IsFaultOfLines, from_origin, Means, HasFault, AtMostOne, HasMeaning, IsFaulty, most_bytes}
use Rattle.pipeline_language.specs.FileReading.{at_line, after_end, no_more, in_front, going_on, body_from, ending_with, first_of, IfFault, Reads, Texts, first_text, texts_from, from_texts, version_of, from_source, program_from, file_of}
use Rattle.pipeline_language.proofs.LineAnswers.{AnswersLine, line_answer, line_is_read, not_text, fault_is_read}
use Rattle.pipeline_language.proofs.SyntaxLemmas.{body_phrase, origin_phrase}
use Rattle.std.proofs.lemmas.Slice.Eq.{bytes_eq-Decides}
use Rattle.file_words.specs.declared.fault.ReadError.TheVariants.{Fault, NoMemory}
use Rattle.pipeline_language.specs.declared.version.Version.TheVariants.{One, Two}
use Rattle.pipeline_language.specs.declared.grammar.Line.TheVariants as body_lines

-- the body of the lines
pub record IsBodyOf (coming : Coming) (lines : List (List ℕ)) (body : Body) : Type 0 where
  pub stage_lines : List (List ℕ)
  pub terminal_line : List ℕ
  pub whole : lines ≡ stage_lines ++ terminal_line ∷ []
  pub stages : AreStageLines coming stage_lines body.0
  pub terminal : IsLineOf (bodies (after_stages coming body.0)) terminal_line (body_lines.Terminal body.1)

-- Lines that lead to a place of a body: stage lines, or all of its lines.
abbrev pub LeadsInBody : Coming → List (List ℕ) → Place → Type 0
LeadsInBody coming lines (BodyPlace next) = (steps : List Stage) × AreStageLines coming lines steps × (next ≡ after_stages coming steps)
LeadsInBody coming lines EndPlace = (body : Body) × IsBodyOf coming lines body
LeadsInBody coming lines place = ⊥

-- a fault of the lines of a body, of which the first has number n
pub record IsFaultOfBody (coming : Coming) (n : ℕ) (lines : List (List ℕ)) (fault : FileFault) : Type 0 where
  pub front : List (List ℕ)
  pub left : List (List ℕ)
  pub place : Place
  pub whole : lines ≡ front ++ left
  pub leads : LeadsInBody coming front place
  pub line : fault.line ≡ n + length front
  pub here : FaultOfNext place left fault.kind

abbrev pub AnswersBody : Coming → ℕ → List (List ℕ) → Result Body FileFault → Type 0
AnswersBody coming n lines (Ok body) = IsBodyOf coming lines body
AnswersBody coming n lines (Err fault) = IsFaultOfBody coming n lines fault

-- a line after the end
pub end_fault : (line : List ℕ) → FaultAt EndPlace line (after_end line)
unfolding after_end
end_fault line = cond_both (is_utf8 line) AfterTerminal BadText (FaultAt EndPlace line)
    (λ t. inr (IsUtf8-from_is_utf8 line t, refl)) (λ t. inl (not_text line t, refl))

pub end_fault_is : (line : List ℕ) (kind : FileError) → FaultAt EndPlace line kind → after_end line ≡ kind
unfolding after_end
end_fault_is line kind (inl fault) = cond-false (is_utf8 line) AfterTerminal BadText (false_from_ne_true (is_utf8 line) (λ t. fault.0 (IsUtf8-from_is_utf8 line t))) ∙ sym fault.1
end_fault_is line kind (inr fault) = cond-true (is_utf8 line) AfterTerminal BadText (is_utf8-from_IsUtf8 line fault.0) ∙ sym fault.1

-- a stage in front of what the rest answers
module _ (coming : Coming) (line : List ℕ) (stage : Stage) (is : IsLineOf (bodies coming) line (body_lines.Stage stage)) where
  stage_body : (lines : List (List ℕ)) (body : Body) → IsBodyOf (after_stage coming stage) lines body → IsBodyOf coming (line ∷ lines) (stage ∷ body.0, body.1)
  stage_body lines body h = record { stage_lines = line ∷ h.stage_lines; terminal_line = h.terminal_line; whole = ap (λ l. line ∷ l) h.whole; stages = (is, h.stages); terminal = h.terminal }

  stage_leads : (front : List (List ℕ)) (place : Place) → LeadsInBody (after_stage coming stage) front place → LeadsInBody coming (line ∷ front) place
  stage_leads front (BodyPlace next) h = (stage ∷ h.0, (is, h.1), h.2)
  stage_leads front EndPlace h = ((stage ∷ h.0.0, h.0.1), stage_body front h.0 h.1)
  stage_leads front place h = h

  stage_answer : (n : ℕ) (lines : List (List ℕ)) (rest : Result Body FileFault) → AnswersBody (after_stage coming stage) (n + 1) lines rest → AnswersBody coming n (line ∷ lines) (in_front (stage ∷ []) rest)
  stage_answer n lines (Ok body) h = stage_body lines body h
  stage_answer n lines (Err fault) h =
      record { front = line ∷ h.front; left = h.left; place = h.place; whole = ap (λ l. line ∷ l) h.whole; leads = stage_leads h.front h.place h.leads; line = omega (arith, h.line); here = h.here }

terminal_answer : (coming : Coming) (n : ℕ) (line : List ℕ) (lines : List (List ℕ)) (terminal : Terminal) → IsLineOf (bodies coming) line (body_lines.Terminal terminal) → (rest : Stage → Result Body FileFault) → AnswersBody coming n (line ∷ lines) (ending_with (body_lines.Terminal terminal) (no_more (n + 1) lines) >>= λ b. going_on b rest)
unfolding no_more
terminal_answer coming n line [] terminal is rest = record { stage_lines = []; terminal_line = line; whole = refl; stages = tt; terminal = is }
terminal_answer coming n line (next ∷ lines) terminal is rest = record {
  front = line ∷ [];
  left = next ∷ lines;
  place = EndPlace;
  whole = refl;
  leads = (([], terminal), record { stage_lines = []; terminal_line = line; whole = refl; stages = tt; terminal = is });
  line = omega arith;
  here = end_fault next;
}

first_answer : (coming : Coming) (n : ℕ) (line : List ℕ) (lines : List (List ℕ)) (r : Result BodyLine FileError) → AnswersLine (bodies coming) line r → (rest : Stage → Result Body FileFault) → ((stage : Stage) → AnswersBody (after_stage coming stage) (n + 1) lines (rest stage)) → AnswersBody coming n (line ∷ lines) ((at_line n r >>= λ b. ending_with b (no_more (n + 1) lines)) >>= λ b. going_on b rest)
first_answer coming n line lines (Err kind) fault rest h = record { front = []; left = line ∷ lines; place = BodyPlace coming; whole = refl; leads = ([], tt, refl); line = omega arith; here = fault }
first_answer coming n line lines (Ok (body_lines.Stage stage)) is rest h = stage_answer coming line stage is n lines (rest stage) (h stage)
first_answer coming n line lines (Ok (body_lines.Terminal terminal)) is rest h = terminal_answer coming n line lines terminal is rest

-- The lines of a body have the answer that reading gives.
pub body_answer : (lines : List (List ℕ)) (coming : Coming) (n : ℕ) → AnswersBody coming n lines (body_from coming n lines)
unfolding first_of
body_answer [] coming n = record { front = []; left = []; place = BodyPlace coming; whole = refl; leads = ([], tt, refl); line = omega arith; here = refl }
body_answer (line ∷ lines) coming n =
    first_answer coming n line lines (line_of (bodies coming) (body_of coming.version) line) (line_answer (bodies coming) (body_of coming.version) (body_phrase coming.version) line)
    (λ stage. body_from (after_stage coming stage) (n + 1) lines) (λ stage. body_answer lines (after_stage coming stage) (n + 1))

-- items in front
pub in_front_none : {A B : Type 0} (r : Result (List A × B) FileFault) → in_front [] r ≡ r
in_front_none (Ok more) = refl
in_front_none (Err fault) = refl

pub in_front_twice : {A B : Type 0} (front items : List A) (r : Result (List A × B) FileFault) → in_front front (in_front items r) ≡ in_front (front ++ items) r
in_front_twice {A} {B} front items (Ok more) = ap (λ all. let found : Result (List A × B) FileFault = Ok (all, more.1) in found) (sym (append_assoc front items more.0))
in_front_twice front items (Err fault) = refl

pub in_front_of_none : {A B : Type 0} (items : List A) (more : B) → in_front items (Ok ([], more)) ≡ Ok (items, more)
in_front_of_none {A} {B} items more = ap (λ all. let found : Result (List A × B) FileFault = Ok (all, more) in found) (append-nil items)

terminal_ends : (stages : List Stage) (terminal : Terminal) (rest : Stage → Result Body FileFault) (r : Result (Unit {0}) FileFault) → in_front stages (ending_with (body_lines.Terminal terminal) r >>= λ b. going_on b rest) ≡ (r >>= λ _. let body : Body = (stages, terminal) in Ok body)
terminal_ends stages terminal rest (Ok x) = in_front_of_none stages terminal
terminal_ends stages terminal rest (Err fault) = refl

-- A body by what its first line is.
pub line_first : (coming : Coming) (n : ℕ) (line : List ℕ) (lines : List (List ℕ)) (r : Result BodyLine FileError) → line_of (bodies coming) (body_of coming.version) line ≡ r → body_from coming n (line ∷ lines) ≡ ((at_line n r >>= λ b. ending_with b (no_more (n + 1) lines)) >>= λ b. going_on b (λ stage. body_from (after_stage coming stage) (n + 1) lines))
unfolding first_of
line_first coming n line lines r e = ap (λ r. (at_line n r >>= λ b. ending_with b (no_more (n + 1) lines)) >>= λ b. going_on b (λ stage. body_from (after_stage coming stage) (n + 1) lines)) e

pub body_by_first : (coming : Coming) (n : ℕ) (lines : List (List ℕ)) (r : Result BodyLine FileFault) → first_of coming n lines ≡ r → body_from coming n lines ≡ (r >>= λ b. going_on b (λ stage. body_from (after_stage coming stage) (n + 1) (drop 1 lines)))
unfolding first_of
body_by_first coming n [] r e = ap (λ r. r >>= λ b. going_on b (λ stage. body_from (after_stage coming stage) (n + 1) [])) e
body_by_first coming n (line ∷ lines) r e = ap (λ r. r >>= λ b. going_on b (λ stage. body_from (after_stage coming stage) (n + 1) lines)) e

-- Stage lines are read, and then what is left.
pub stages_are_read : (front : List (List ℕ)) (stages : List Stage) (coming : Coming) (n : ℕ) (left : List (List ℕ)) → AreStageLines coming front stages → body_from coming n (front ++ left) ≡ in_front stages (body_from (after_stages coming stages) (n + length front) left)
stages_are_read [] [] coming n left are = let same : n ≡ n + 0 = omega arith in ap (λ m. body_from coming m left) same ∙ sym (in_front_none (body_from coming (n + 0) left))
stages_are_read [] (stage ∷ stages) coming n left are = absurd are
stages_are_read (line ∷ front) [] coming n left are = absurd are
stages_are_read (line ∷ front) (stage ∷ stages) coming n left are =
    let number : (n + 1) + length front ≡ n + length (line ∷ front) = omega arith in
    line_first coming n line (front ++ left) (Ok (body_lines.Stage stage)) (line_is_read (bodies coming) (body_of coming.version) (body_phrase coming.version) line (body_lines.Stage stage) are.0)
    ∙ ap (in_front (stage ∷ [])) (stages_are_read front stages (after_stage coming stage) (n + 1) left are.1)
    ∙ in_front_twice (stage ∷ []) stages (body_from (after_stages (after_stage coming stage) stages) ((n + 1) + length front) left)
    ∙ ap (λ m. in_front (stage ∷ stages) (body_from (after_stages (after_stage coming stage) stages) m left)) number

-- A body is read, and then nothing may be left.
pub body_is_read : (coming : Coming) (n : ℕ) (front left : List (List ℕ)) (body : Body) → IsBodyOf coming front body → body_from coming n (front ++ left) ≡ (no_more (n + length front) left >>= λ _. let b : Body = (body.0, body.1) in Ok b)
body_is_read coming n front left body is =
    let stages : List Stage = body.0 in
    let last : Coming = after_stages coming stages in
    let m : ℕ = n + length is.stage_lines in
    let number : m + 1 ≡ n + length front = omega (arith, ap length is.whole, length-append is.stage_lines (is.terminal_line ∷ [])) in
    ap (λ lines. body_from coming n (lines ++ left)) is.whole
    ∙ ap (body_from coming n) (append_assoc is.stage_lines (is.terminal_line ∷ []) left)
    ∙ stages_are_read is.stage_lines stages coming n (is.terminal_line ∷ left) is.stages
    ∙ ap (in_front stages) (line_first last m is.terminal_line left (Ok (body_lines.Terminal body.1)) (line_is_read (bodies last) (body_of last.version) (body_phrase last.version) is.terminal_line (body_lines.Terminal body.1) is.terminal))
    ∙ terminal_ends stages body.1 (λ stage. body_from (after_stage last stage) (m + 1) left) (no_more (m + 1) left)
    ∙ ap (λ k. no_more k left >>= λ _. let b : Body = (body.0, body.1) in Ok b) number

-- A file has one reading: what the reader answers is its meaning or its fault, and nothing else is.

-- what lines, and a file, have as their answer
abbrev AnswersLines : List (List ℕ) → Result Program FileFault → Type 0
AnswersLines lines (Ok program) = IsProgramOf lines program
AnswersLines lines (Err fault) = IsFaultOfLines lines fault

abbrev AnswersFile : List ℕ → Result Program FileFault → Type 0
AnswersFile file (Ok program) = Means file program
AnswersFile file (Err fault) = HasFault file fault

-- the first line
abbrev AnswersVersion : List ℕ → Result Version FileError → Type 0
AnswersVersion line (Ok version) = line ≡ first_line version
AnswersVersion line (Err kind) = VersionFault line kind

-- a line that is the first of neither version
neither : (line : List ℕ) → bytes_eq line (first_line One) ≡ false → bytes_eq line (first_line Two) ≡ false → (version : Version) → line ≡ first_line version → ⊥
neither line one two One e = false≢true (sym one ∙ (bytes_eq-Decides line (first_line One)).1 e)
neither line one two Two e = false≢true (sym two ∙ (bytes_eq-Decides line (first_line Two)).1 e)

version_answer : (line : List ℕ) → AnswersVersion line (version_of line)
unfolding version_of
version_answer line = cond_both (is_utf8 line) _ (Err BadText) (AnswersVersion line)
    (λ t. cond_both (bytes_eq line (first_line One)) (Ok One) _ (AnswersVersion line)
    (λ same. (bytes_eq-Decides line (first_line One)).0 same)
    (λ one. cond_both (bytes_eq line (first_line Two)) (Ok Two) (Err BadVersion) (AnswersVersion line)
    (λ same. (bytes_eq-Decides line (first_line Two)).0 same)
    (λ two. inr (IsUtf8-from_is_utf8 line t, neither line one two, refl))))
    (λ t. inl (not_text line t, refl))

version_is_read : (version : Version) → version_of (first_line version) ≡ Ok version
unfolding version_of is_utf8 chars lib.Utf8.encode
version_is_read One = refl
version_is_read Two = refl

other_line : (line : List ℕ) (version : Version) → (line ≡ first_line version → ⊥) → bytes_eq line (first_line version) ≡ false
other_line line version other = false_from_ne_true (bytes_eq line (first_line version)) (λ t. other ((bytes_eq-Decides line (first_line version)).0 t))

version_fault_is_read : (line : List ℕ) (kind : FileError) → VersionFault line kind → version_of line ≡ Err kind
unfolding version_of
version_fault_is_read line kind (inl fault) = cond-false (is_utf8 line) _ (Err BadText) (false_from_ne_true (is_utf8 line) (λ t. fault.0 (IsUtf8-from_is_utf8 line t))) ∙ ap Err (sym fault.1)
version_fault_is_read line kind (inr fault) = cond-true (is_utf8 line) _ (Err BadText) (is_utf8-from_IsUtf8 line fault.0)
    ∙ cond-false (bytes_eq line (first_line One)) (Ok One) _ (other_line line One (fault.1 One))
    ∙ cond-false (bytes_eq line (first_line Two)) (Ok Two) (Err BadVersion) (other_line line Two (fault.1 Two)) ∙ ap Err (sym fault.2)

-- the texts
abbrev IsFaultOfTexts : ℕ → ℕ → List (List ℕ) → FileFault → Type 0
IsFaultOfTexts count n lines fault = (front : List (List ℕ)) × (left : List (List ℕ)) × (lines ≡ front ++ left) × AreTexts front × (length front < count) × (fault.line ≡ n + length front) × FaultOfNext TextPlace left fault.kind

abbrev AnswersTexts : ℕ → ℕ → List (List ℕ) → Result Texts FileFault → Type 0
AnswersTexts count n lines (Ok texts) = (lines ≡ texts.0 ++ texts.1) × AreTexts texts.0 × (length texts.0 ≡ count)
AnswersTexts count n lines (Err fault) = IsFaultOfTexts count n lines fault

text_first : (count n : ℕ) (line : List ℕ) (lines : List (List ℕ)) → IsUtf8 line → (r : Result Texts FileFault) → AnswersTexts count (n + 1) lines r → AnswersTexts (suc count) n (line ∷ lines) (in_front (line ∷ []) r)
text_first count n line lines is (Ok texts) h = (ap (λ l. line ∷ l) h.0, (is, h.1), omega (arith, h.2))
text_first count n line lines is (Err fault) h = (line ∷ h.0, h.1, ap (λ l. line ∷ l) h.2, (is, h.3), omega (arith, h.4), omega (arith, h.5), h.6)

texts_answer : (count n : ℕ) (lines : List (List ℕ)) → AnswersTexts count n lines (texts_from count n lines)
unfolding first_text
texts_answer zero n lines = (refl, tt, refl)
texts_answer (suc count) n [] = ([], [], refl, tt, omega arith, omega arith, refl)
texts_answer (suc count) n (line ∷ lines) =
    cond_both (is_utf8 line) (Ok line) (Err (record { line = n; kind = BadText })) (λ r. AnswersTexts (suc count) n (line ∷ lines) (r >>= λ text. in_front (text ∷ []) (texts_from count (n + 1) lines)))
    (λ t. text_first count n line lines (IsUtf8-from_is_utf8 line t) (texts_from count (n + 1) lines) (texts_answer count (n + 1) lines))
    (λ t. ([], line ∷ lines, refl, tt, omega arith, omega arith, (not_text line t, refl)))

-- texts that stand in front are read
front_is_read : (texts : List (List ℕ)) (count n : ℕ) (left : List (List ℕ)) → AreTexts texts → texts_from (length texts + count) n (texts ++ left) ≡ in_front texts (texts_from count (n + length texts) left)
unfolding first_text
front_is_read [] count n left are =
    let none : 0 + count ≡ count = omega arith in let same : n ≡ n + 0 = omega arith in
    ap (λ k. texts_from k n left) none ∙ ap (λ m. texts_from count m left) same ∙ sym (in_front_none (texts_from count (n + 0) left))
front_is_read (text ∷ texts) count n left are =
    let more : length (text ∷ texts) + count ≡ suc (length texts + count) = omega arith in let same : (n + 1) + length texts ≡ n + length (text ∷ texts) = omega arith in
    let rest : Result Texts FileFault = texts_from (length texts + count) (n + 1) (texts ++ left) in
    ap (λ k. texts_from k n (text ∷ texts ++ left)) more
    ∙ ap (λ r. r >>= λ t. in_front (t ∷ []) rest) (cond-true (is_utf8 text) (Ok text) (Err (record { line = n; kind = BadText })) (is_utf8-from_IsUtf8 text are.0))
    ∙ ap (in_front (text ∷ [])) (front_is_read texts count (n + 1) left are.1)
    ∙ in_front_twice (text ∷ []) texts (texts_from count ((n + 1) + length texts) left) ∙ ap (λ m. in_front (text ∷ texts) (texts_from count m left)) same

texts_are_read : (texts : List (List ℕ)) (count n : ℕ) (left : List (List ℕ)) → AreTexts texts → length texts ≡ count → texts_from count n (texts ++ left) ≡ Ok (texts, left)
texts_are_read texts count n left are len =
    let all : count ≡ length texts + 0 = omega (arith, len) in
    ap (λ k. texts_from k n (texts ++ left)) all ∙ front_is_read texts 0 n left are ∙ in_front_of_none texts left

no_text_is_read : (count n : ℕ) (left : List (List ℕ)) (kind : FileError) → FaultOfNext TextPlace left kind → texts_from (suc count) n left ≡ Err (record { line = n; kind = kind })
unfolding first_text
no_text_is_read count n [] kind here = ap (λ k. let r : Result Texts FileFault = Err (record { line = n; kind = k }) in r) (sym here)
no_text_is_read count n (line ∷ left) kind here =
    ap (λ r. r >>= λ t. in_front (t ∷ []) (texts_from count (n + 1) left)) (cond-false (is_utf8 line) (Ok line) (Err (record { line = n; kind = BadText })) (false_from_ne_true (is_utf8 line) (λ t. here.0 (IsUtf8-from_is_utf8 line t))))
    ∙ ap (λ k. let r : Result Texts FileFault = Err (record { line = n; kind = k }) in r) (sym here.1)

text_fault_is_told : (front : List (List ℕ)) (count n : ℕ) (left : List (List ℕ)) (kind : FileError) → AreTexts front → length front < count → FaultOfNext TextPlace left kind → texts_from count n (front ++ left) ≡ Err (record { line = n + length front; kind = kind })
text_fault_is_told front count n left kind are less here =
    let all : count ≡ length front + suc (count - (length front + 1)) = omega (arith, less) in
    ap (λ k. texts_from k n (front ++ left)) all ∙ front_is_read front (suc (count - (length front + 1))) n left are ∙ ap (in_front front) (no_text_is_read (count - (length front + 1)) (n + length front) left kind here)

-- the program of a source, its texts and a body
abbrev made : Origin → List (List ℕ) → Body → Program
made origin texts body = record { origin = origin; texts = texts; stages = body.0; terminal = body.1 }

abbrev head : Version → List ℕ → List (List ℕ) → List (List ℕ)
head version line lines = first_line version ∷ line ∷ lines

program_lines : (version : Version) (line : List ℕ) (origin : Origin) → IsLineOf origins line origin → (texts : List (List ℕ)) → AreTexts texts → length texts ≡ text_count origin → (lines : List (List ℕ)) (body : Body) → IsBodyOf (from_origin version origin) lines body → IsProgramOf (head version line (texts ++ lines)) (made origin texts body)
program_lines version line origin is texts are number lines body h = record {
  version = version;
  origin_line = line;
  stage_lines = h.stage_lines;
  terminal_line = h.terminal_line;
  whole = ap (λ l. head version line (texts ++ l)) h.whole;
  origin = is;
  texts = are;
  number = number;
  stages = h.stages;
  terminal = h.terminal;
}

leads_behind : (version : Version) (line : List ℕ) (origin : Origin) → IsLineOf origins line origin → (texts : List (List ℕ)) → AreTexts texts → length texts ≡ text_count origin → (front : List (List ℕ)) (place : Place) → LeadsInBody (from_origin version origin) front place → LeadsTo (head version line (texts ++ front)) place
leads_behind version line origin is texts are number front (BodyPlace next) h = record { version = version; origin_line = line; source = origin; lines_read = texts; stage_lines = front; steps = h.0; whole = refl; origin = is; texts = are; number = number; stages = h.1; comes = h.2 }
leads_behind version line origin is texts are number front EndPlace h = (made origin texts h.0, program_lines version line origin is texts are number front h.0 h.1)
leads_behind version line origin is texts are number front place h = absurd h

after_texts : (version : Version) (line : List ℕ) (origin : Origin) → IsLineOf origins line origin → (texts : List (List ℕ)) → AreTexts texts → length texts ≡ text_count origin → (lines : List (List ℕ)) (r : Result Body FileFault) → AnswersBody (from_origin version origin) (3 + length texts) lines r → AnswersLines (head version line (texts ++ lines)) (r >>= λ body. Ok (made origin texts body))
after_texts version line origin is texts are number lines (Ok body) h = program_lines version line origin is texts are number lines body h
after_texts version line origin is texts are number lines (Err fault) h = record {
  before = head version line (texts ++ h.front);
  left = h.left;
  place = h.place;
  whole = ap (λ l. head version line (texts ++ l)) h.whole ∙ ap (head version line) (sym (append_assoc texts h.front h.left));
  leads = leads_behind version line origin is texts are number h.front h.place h.leads;
  line = omega (arith, h.line, length-append texts h.front);
  here = h.here;
}

after_source : (version : Version) (line : List ℕ) (origin : Origin) → IsLineOf origins line origin → (lines : List (List ℕ)) (r : Result Texts FileFault) → AnswersTexts (text_count origin) 3 lines r → AnswersLines (head version line lines) (r >>= λ texts. body_from (from_origin version origin) (3 + length texts.0) texts.1 >>= λ body. Ok (made origin texts.0 body))
after_source version line origin is lines (Ok texts) h =
    subst (λ l. AnswersLines (head version line l) (body_from (from_origin version origin) (3 + length texts.0) texts.1 >>= λ body. Ok (made origin texts.0 body))) (sym h.0)
    (after_texts version line origin is texts.0 h.1 h.2 texts.1 (body_from (from_origin version origin) (3 + length texts.0) texts.1) (body_answer texts.1 (from_origin version origin) (3 + length texts.0)))
after_source version line origin is lines (Err fault) h = record {
  before = head version line h.0;
  left = h.1;
  place = TextPlace;
  whole = ap (head version line) h.2;
  leads = record { version = version; origin_line = line; source = origin; lines_read = h.0; whole = refl; origin = is; texts = h.3; number = h.4 };
  line = omega (arith, h.5);
  here = h.6;
}

at_source : (version : Version) (line : List ℕ) (lines : List (List ℕ)) (r : Result Origin FileError) → AnswersLine origins line r → AnswersLines (head version line lines) (at_line 2 r >>= λ origin. from_texts version origin lines)
at_source version line lines (Ok origin) is = after_source version line origin is lines (texts_from (text_count origin) 3 lines) (texts_answer (text_count origin) 3 lines)
at_source version line lines (Err kind) fault = record { before = first_line version ∷ []; left = line ∷ lines; place = SourcePlace; whole = refl; leads = (version, refl); line = refl; here = fault }

source_answer : (version : Version) (lines : List (List ℕ)) → AnswersLines (first_line version ∷ lines) (from_source version lines)
source_answer version [] = record { before = first_line version ∷ []; left = []; place = SourcePlace; whole = refl; leads = (version, refl); line = refl; here = refl }
source_answer version (line ∷ lines) = at_source version line lines (line_of origins origin_words line) (line_answer origins origin_words origin_phrase line)

at_version : (line : List ℕ) (lines : List (List ℕ)) (r : Result Version FileError) → AnswersVersion line r → AnswersLines (line ∷ lines) (at_line 1 r >>= λ version. from_source version lines)
at_version line lines (Ok version) is = subst (λ first. AnswersLines (first ∷ lines) (from_source version lines)) (sym is) (source_answer version lines)
at_version line lines (Err kind) fault = record { before = []; left = line ∷ lines; place = VersionPlace; whole = refl; leads = refl; line = refl; here = fault }

-- The lines have the answer that reading gives.
lines_answer : (lines : List (List ℕ)) → AnswersLines lines (program_from lines)
unfolding program_from
lines_answer [] = record { before = []; left = []; place = VersionPlace; whole = refl; leads = refl; line = refl; here = refl }
lines_answer (line ∷ lines) = at_version line lines (version_of line) (version_answer line)

in_file : (file : List ℕ) → length file ≤ most_bytes → (r : Result Program FileFault) → AnswersLines (lines_of file) r → AnswersFile file r
in_file file small (Ok program) is = (small, is)
in_file file small (Err fault) is = inr (small, is)

-- A file has the answer that reading gives.
pub file_answer : (file : List ℕ) → AnswersFile file (file_of file)
unfolding file_of
file_answer file = cond_both (nat_lt most_bytes (length file)) (Err (record { line = 0; kind = TooLarge })) (program_from (lines_of file)) (AnswersFile file)
    (λ t. inl (ltb-true most_bytes (length file) t, refl))
    (λ t. in_file file (ltb-false most_bytes (length file) t) (program_from (lines_of file)) (lines_answer (lines_of file)))

-- behind the version and the source, texts are read, and behind them a body
behind_source : (version : Version) (line : List ℕ) (origin : Origin) → IsLineOf origins line origin → (lines : List (List ℕ)) → program_from (head version line lines) ≡ from_texts version origin lines
unfolding program_from
behind_source version line origin is lines =
    ap (λ r. at_line 1 r >>= λ found. from_source found (line ∷ lines)) (version_is_read version)
    ∙ ap (λ r. at_line 2 r >>= λ found. from_texts version found lines) (line_is_read origins origin_words origin_phrase line origin is)

behind_texts : (version : Version) (line : List ℕ) (origin : Origin) → IsLineOf origins line origin → (texts : List (List ℕ)) → AreTexts texts → length texts ≡ text_count origin → (lines : List (List ℕ)) → program_from (head version line (texts ++ lines)) ≡ (body_from (from_origin version origin) (3 + length texts) lines >>= λ body. Ok (made origin texts body))
behind_texts version line origin is texts are number lines =
    behind_source version line origin is (texts ++ lines)
    ∙ ap (λ r. r >>= λ t. body_from (from_origin version origin) (3 + length t.0) t.1 >>= λ body. Ok (made origin t.0 body)) (texts_are_read texts (text_count origin) 3 lines are number)

body_in : (lines : List (List ℕ)) (program : Program) (is : IsProgramOf lines program) → IsBodyOf (from_origin is.version program.origin) (is.stage_lines ++ is.terminal_line ∷ []) (program.stages, program.terminal)
body_in lines program is = record { stage_lines = is.stage_lines; terminal_line = is.terminal_line; whole = refl; stages = is.stages; terminal = is.terminal }

-- the lines of a program, and what follows them
behind_program : (before left : List (List ℕ)) (program : Program) → IsProgramOf before program → program_from (before ++ left) ≡ (no_more (length before + 1) left >>= λ _. Ok program)
behind_program before left program is =
    let rest : List (List ℕ) = is.stage_lines ++ is.terminal_line ∷ [] in
    let n : ℕ = 3 + length program.texts in
    let number : n + length rest ≡ length before + 1 = omega (arith, ap length is.whole, length-append program.texts rest) in
    ap (λ lines. program_from (lines ++ left)) is.whole
    ∙ ap (λ lines. program_from (head is.version is.origin_line lines)) (append_assoc program.texts rest left)
    ∙ behind_texts is.version is.origin_line program.origin is.origin program.texts is.texts is.number (rest ++ left)
    ∙ ap (λ r. r >>= λ body. Ok (made program.origin program.texts body)) (body_is_read (from_origin is.version program.origin) n rest left (program.stages, program.terminal) (body_in before program is))
    ∙ ended (no_more (n + length rest) left)
    ∙ ap (λ k. no_more k left >>= λ _. Ok program) number
  where
    ended : (r : Result (Unit {0}) FileFault) → ((r >>= λ _. let b : Body = (program.stages, program.terminal) in Ok b) >>= λ body. Ok (made program.origin program.texts body)) ≡ (r >>= λ _. Ok program)
    ended (Ok x) = refl
    ended (Err fault) = refl

-- The lines of a program are read as that.
program_is_read : (lines : List (List ℕ)) (program : Program) → IsProgramOf lines program → program_from lines ≡ Ok program
unfolding no_more
program_is_read lines program is = ap program_from (sym (append-nil lines)) ∙ behind_program lines [] program is

same_parts : (n : ℕ) (kind : FileError) (fault : FileFault) → fault.line ≡ n → fault.kind ≡ kind → record { line = n; kind = kind } ≡ fault
same_parts n kind fault line same = ap (λ m. let f : FileFault = record { line = m; kind = kind } in f) (sym line) ∙ ap (λ k. let f : FileFault = record { line = fault.line; kind = k } in f) (sym same)

-- the fault of what is left of a body
left_fault : (coming : Coming) (n : ℕ) (left : List (List ℕ)) (fault : FileFault) → fault.line ≡ n → FaultOfNext (BodyPlace coming) left fault.kind → body_from coming n left ≡ Err fault
left_fault coming n [] fault line here = ap Err (same_parts n MissingTerminal fault line here)
left_fault coming n (first ∷ left) fault line here =
    line_first coming n first left (Err fault.kind) (fault_is_read (bodies coming) (body_of coming.version) (body_phrase coming.version) first fault.kind here) ∙ ap Err (same_parts n fault.kind fault line refl)

at_body : (before left : List (List ℕ)) (place : Coming) (fault : FileFault) → IsBeginningOf before place → fault.line ≡ length before + 1 → FaultOfNext (BodyPlace place) left fault.kind → program_from (before ++ left) ≡ Err fault
at_body before left place fault is line here =
    let coming : Coming = from_origin is.version is.source in
    let n : ℕ = 3 + length is.lines_read in
    let number : fault.line ≡ n + length is.stage_lines = omega (arith, line, ap length is.whole, length-append is.lines_read is.stage_lines) in
    ap (λ lines. program_from (lines ++ left)) is.whole
    ∙ ap (λ lines. program_from (head is.version is.origin_line lines)) (append_assoc is.lines_read is.stage_lines left)
    ∙ behind_texts is.version is.origin_line is.source is.origin is.lines_read is.texts is.number (is.stage_lines ++ left)
    ∙ ap (λ r. r >>= λ body. Ok (made is.source is.lines_read body))
    (stages_are_read is.stage_lines is.steps coming n left is.stages
    ∙ ap (in_front is.steps) (left_fault (after_stages coming is.steps) (n + length is.stage_lines) left fault number (subst (λ p. FaultOfNext (BodyPlace p) left fault.kind) is.comes here)))

at_text : (before left : List (List ℕ)) (fault : FileFault) → IsBeginningOfTexts before → fault.line ≡ length before + 1 → FaultOfNext TextPlace left fault.kind → program_from (before ++ left) ≡ Err fault
at_text before left fault is line here =
    let number : fault.line ≡ 3 + length is.lines_read = omega (arith, line, ap length is.whole) in
    ap (λ lines. program_from (lines ++ left)) is.whole
    ∙ behind_source is.version is.origin_line is.source is.origin (is.lines_read ++ left)
    ∙ ap (λ r. r >>= λ t. body_from (from_origin is.version is.source) (3 + length t.0) t.1 >>= λ body. Ok (made is.source t.0 body)) (text_fault_is_told is.lines_read (text_count is.source) 3 left fault.kind is.texts is.number here)
    ∙ ap Err (same_parts (3 + length is.lines_read) fault.kind fault number refl)

-- a fault at each place
at_place : (place : Place) (before left : List (List ℕ)) (fault : FileFault) → LeadsTo before place → fault.line ≡ length before + 1 → FaultOfNext place left fault.kind → program_from (before ++ left) ≡ Err fault
unfolding program_from no_more
at_place VersionPlace before [] fault leads line here =
    ap (λ lines. program_from (lines ++ [])) leads ∙ ap Err (same_parts 1 BadVersion fault (line ∙ ap (λ lines. length lines + 1) leads) here)
at_place VersionPlace before (first ∷ left) fault leads line here =
    ap (λ lines. program_from (lines ++ first ∷ left)) leads ∙ rw (version_fault_is_read first fault.kind here) (ap Err (same_parts 1 fault.kind fault (line ∙ ap (λ lines. length lines + 1) leads) refl))
at_place SourcePlace before [] fault leads line here =
    ap (λ lines. program_from (lines ++ [])) leads.1 ∙ rw (version_is_read leads.0) (ap Err (same_parts 2 MissingTerminal fault (line ∙ ap (λ lines. length lines + 1) leads.1) here))
at_place SourcePlace before (first ∷ left) fault leads line here =
    ap (λ lines. program_from (lines ++ first ∷ left)) leads.1 ∙ rw (version_is_read leads.0, fault_is_read origins origin_words origin_phrase first fault.kind here) (ap Err (same_parts 2 fault.kind fault (line ∙ ap (λ lines. length lines + 1) leads.1) refl))
at_place TextPlace before left fault leads line here = at_text before left fault leads line here
at_place (BodyPlace place) before left fault leads line here = at_body before left place fault leads line here
at_place EndPlace before [] fault leads line here = absurd here
at_place EndPlace before (first ∷ left) fault leads line here =
    behind_program before (first ∷ left) leads.0 leads.1 ∙ ap Err (same_parts (length before + 1) (after_end first) fault line (sym (end_fault_is first fault.kind here)))

-- The fault of lines is told.
fault_of_lines_is_read : (lines : List (List ℕ)) (fault : FileFault) → IsFaultOfLines lines fault → program_from lines ≡ Err fault
fault_of_lines_is_read lines fault is = ap program_from is.whole ∙ at_place is.place is.before is.left fault is.leads is.line is.here

-- What a file means is read.
pub means_is_read : (file : List ℕ) (program : Program) → Means file program → file_of file ≡ Ok program
unfolding file_of
means_is_read file program is = cond-false (nat_lt most_bytes (length file)) _ (program_from (lines_of file)) (le-ltb most_bytes (length file) is.0) ∙ program_is_read (lines_of file) program is.1

-- The fault of a file is told.
pub fault_of_file_is_read : (file : List ℕ) (fault : FileFault) → HasFault file fault → file_of file ≡ Err fault
unfolding file_of
fault_of_file_is_read file fault (inl is) = cond-true (nat_lt most_bytes (length file)) _ (program_from (lines_of file)) (lt-ltb most_bytes (length file) is.0) ∙ ap Err (sym is.1)
fault_of_file_is_read file fault (inr is) = cond-false (nat_lt most_bytes (length file)) _ (program_from (lines_of file)) (le-ltb most_bytes (length file) is.0) ∙ fault_of_lines_is_read (lines_of file) fault is.1

-- What a function that reads answers.
pub reads_means : (file : List ℕ) (r : Result Pipeline ReadError) → Reads program_of r (file_of file) → IfOk r (λ pipeline. Means file (program_of pipeline))
reads_means file (Ok pipeline) is = subst (AnswersFile file) is (file_answer file)
reads_means file (Err e) is = tt

pub reads_fault : (file : List ℕ) (r : Result Pipeline ReadError) → Reads program_of r (file_of file) → IfErr r (IfFault (HasFault file))
reads_fault file (Ok pipeline) is = tt
reads_fault file (Err NoMemory) is = tt
reads_fault file (Err (Fault fault)) is = subst (AnswersFile file) is (file_answer file)

-- One reading, and no other.
pub some_reading : (file : List ℕ) → HasMeaning file ⊎ IsFaulty file
some_reading file = by_answer (file_of file) (file_answer file)
  where
    by_answer : (r : Result Program FileFault) → AnswersFile file r → HasMeaning file ⊎ IsFaulty file
    by_answer (Ok program) is = inl (program, is)
    by_answer (Err fault) is = inr (fault, is)

pub apart : (file : List ℕ) → HasMeaning file → IsFaulty file → ⊥
apart file means has = cc (means_is_read file means.0 means.1, fault_of_file_is_read file has.0 has.1)

pub one_meaning : (file : List ℕ) → AtMostOne (Means file)
one_meaning file one other e f = cc (means_is_read file one e, means_is_read file other f)

pub one_fault_of_file : (file : List ℕ) → AtMostOne (HasFault file)
one_fault_of_file file one other e f = cc (fault_of_file_is_read file one e, fault_of_file_is_read file other f)
