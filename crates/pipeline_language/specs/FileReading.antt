-- Reading a file, line by line.
use Rattle.std.specs.Prelude.{◌≡◌, ℕ, zero, suc, ◌+◌, List, [], ◌∷◌, ◌++◌, drop, length, nat_lt, Result, Ok, Err, if◌then◌else◌}
use Rattle.std.specs.Str.{is_utf8, bytes_eq}
use Rattle.file_words.specs.{declared.fault.FileError.FileError, declared.fault.FileFault.FileFault, declared.fault.ReadError.ReadError, declared.fault.LineError.LineError, Words.lines_of, WordReading.◌>>=◌}
use Rattle.file_words.specs.declared.fault.FileError.TheVariants.{BadText, TooLarge, BadVersion, MissingTerminal, AfterTerminal}
use Rattle.file_words.specs.declared.fault.ReadError.TheVariants as errors
use Rattle.file_words.specs.declared.fault.LineError.TheVariants as line_errors
use Rattle.pipeline_language.specs.declared.{version.Version.Version, kinds.TextLine.TextLine, line.Source.Source, pipeline.Pipeline.Pipeline}
use Rattle.pipeline_language.specs.declared.version.Version.TheVariants.{One, Two}
use Rattle.pipeline_language.specs.Content.{Body, program_of, NumberLine, number_line_content, text_line_content, source_content}
use Rattle.pipeline_language.specs.declared.grammar.Line.TheVariants as body_lines
use Rattle.pipeline_language.specs.Syntax.{Origin, origins, text_count, Stage, BodyLine, NumberKind, TextKind, Coming, comes, after_stage, bodies, Program, body_of, origin_words}
use Rattle.pipeline_language.specs.Language.{most_bytes, first_line, from_origin, Means, HasFault}
use Rattle.pipeline_language.specs.Reading.{ReadAs, line_of}

unfoldable pub version_of : List ℕ → Result Version FileError
version_of line = if is_utf8 line then (if bytes_eq line (first_line One) then Ok One else (if bytes_eq line (first_line Two) then Ok Two else Err BadVersion)) else Err BadText

-- what a line gives, with its number at a fault
abbrev pub at_line : {X : Type 0} → ℕ → Result X FileError → Result X FileFault
at_line n (Ok x) = Ok x
at_line n (Err kind) = Err (record { line = n; kind = kind })

-- the fault of a line after the terminal line
unfoldable pub after_end : List ℕ → FileError
after_end line = if is_utf8 line then AfterTerminal else BadText

-- the lines after the terminal line, of which the first has number n
unfoldable pub no_more : ℕ → List (List ℕ) → Result (Unit {0}) FileFault
no_more n [] = Ok tt
no_more n (line ∷ lines) = Err (record { line = n; kind = after_end line })

-- items in front of those that are read
abbrev pub in_front : {A B : Type 0} → List A → Result (List A × B) FileFault → Result (List A × B) FileFault
in_front items (Ok more) = Ok (items ++ more.0, more.1)
in_front items (Err fault) = Err fault

-- The first line of a body, to which something comes, and which has number n. Nothing may stand behind it where it is the terminal.
abbrev pub ending_with : BodyLine → Result (Unit {0}) FileFault → Result BodyLine FileFault
ending_with (body_lines.Stage stage) ending = Ok (body_lines.Stage stage)
ending_with (body_lines.Terminal terminal) ending = ending >>= λ _. Ok (body_lines.Terminal terminal)

unfoldable pub first_of : Coming → ℕ → List (List ℕ) → Result BodyLine FileFault
first_of coming n [] = Err (record { line = n; kind = MissingTerminal })
first_of coming n (line ∷ lines) = at_line n (line_of (bodies coming) (body_of coming.version) line) >>= λ b. ending_with b (no_more (n + 1) lines)

-- the lines of a body
abbrev pub going_on : BodyLine → (Stage → Result Body FileFault) → Result Body FileFault
going_on (body_lines.Stage stage) rest = in_front (stage ∷ []) (rest stage)
going_on (body_lines.Terminal terminal) rest = Ok ([], terminal)

abbrev pub body_from : Coming → ℕ → List (List ℕ) → Result Body FileFault
body_from coming n [] = Err (record { line = n; kind = MissingTerminal })
body_from coming n (line ∷ lines) = first_of coming n (line ∷ lines) >>= λ b. going_on b (λ stage. body_from (after_stage coming stage) (n + 1) lines)

-- the first text, which has number n
unfoldable pub first_text : ℕ → List (List ℕ) → Result (List ℕ) FileFault
first_text n [] = Err (record { line = n; kind = MissingTerminal })
first_text n (line ∷ lines) = if is_utf8 line then Ok line else Err (record { line = n; kind = BadText })

-- so many texts, and what is left of the lines
abbrev pub Texts : Type 0
Texts = List (List ℕ) × List (List ℕ)

abbrev pub texts_from : ℕ → ℕ → List (List ℕ) → Result Texts FileFault
texts_from zero n lines = Ok ([], lines)
texts_from (suc count) n lines = first_text n lines >>= λ text. in_front (text ∷ []) (texts_from count (n + 1) (drop 1 lines))

-- the lines from the texts on, from the source on, and all of them
abbrev pub from_texts : Version → Origin → List (List ℕ) → Result Program FileFault
from_texts version origin lines = texts_from (text_count origin) 3 lines >>= λ texts. body_from (from_origin version origin) (3 + length texts.0) texts.1 >>= λ body. Ok (record { origin = origin; texts = texts.0; stages = body.0; terminal = body.1 })

abbrev pub from_source : Version → List (List ℕ) → Result Program FileFault
from_source version [] = Err (record { line = 2; kind = MissingTerminal })
from_source version (line ∷ lines) = at_line 2 (line_of origins origin_words line) >>= λ origin. from_texts version origin lines

unfoldable pub program_from : List (List ℕ) → Result Program FileFault
program_from [] = Err (record { line = 1; kind = BadVersion })
program_from (line ∷ lines) = at_line 1 (version_of line) >>= λ version. from_source version lines

-- the whole file
unfoldable pub file_of : List ℕ → Result Program FileFault
file_of file = if nat_lt most_bytes (length file) then Err (record { line = 0; kind = TooLarge }) else program_from (lines_of file)

-- What a function returned is, by its content, what reading gives, unless memory ran out.
abbrev pub Reads : {X Y : Type 0} → (X → Y) → Result X ReadError → Result Y FileFault → Type 0
Reads content (Ok x) read = read ≡ Ok (content x)
Reads content (Err errors.NoMemory) read = Unit {0}
Reads content (Err (errors.Fault fault)) read = read ≡ Err fault

-- What a file means is read; its fault is told.
abbrev pub ReadsMeaning : List ℕ → Result Pipeline ReadError → Type 0
ReadsMeaning file result = (program : Program) → Means file program → Reads program_of result (Ok program)

abbrev pub TellsFault : List ℕ → Result Pipeline ReadError → Type 0
TellsFault file result = (fault : FileFault) → HasFault file fault → Reads program_of result (Err fault)

-- what a function returned of one line, by its content
abbrev pub LineReads : {X Y : Type 0} → (X → Y) → Result X LineError → Result Y FileError → Type 0
LineReads content (Ok x) read = read ≡ Ok (content x)
LineReads content (Err line_errors.NoMemory) read = Unit {0}
LineReads content (Err (line_errors.Fault kind)) read = read ≡ Err kind

-- A source line, and a line over numbers or over texts with so many stages before it: what a function returned is what the line says, or
-- its fault.
abbrev pub ReadsSource : List ℕ → Result Source LineError → Type 0
ReadsSource line result = LineReads source_content result (line_of origins origin_words line)

abbrev pub ReadsNumberLine : Version → ℕ → List ℕ → Result NumberLine FileError → Type 0
ReadsNumberLine version before line result = ReadAs number_line_content (line_of (bodies (comes version NumberKind before)) (body_of version) line) result

abbrev pub ReadsTextLine : Version → ℕ → List ℕ → Result TextLine FileError → Type 0
ReadsTextLine version before line result = ReadAs text_line_content (line_of (bodies (comes version TextKind before)) (body_of version) line) result

-- a fact on the fault, where the error is one
abbrev pub IfFault : (FileFault → Type 0) → ReadError → Type 0
IfFault P (errors.Fault fault) = P fault
IfFault P errors.NoMemory = Unit {0}
