-- The pipeline language: which file means which pipeline, and which fault a file has.
use Rattle.std.specs.Prelude.{◌≡◌, ◌⊎◌, ℕ, ◌+◌, ◌<◌, ◌≤◌, List, [], ◌∷◌, ◌++◌, length, IsUtf8, codes}
use Rattle.file_words.specs.{declared.fault.FileError.FileError, declared.fault.FileFault.FileFault, Words.lines_of}
use Rattle.file_words.specs.declared.fault.FileError.TheVariants.{BadText, TooLarge, BadVersion, MissingTerminal, AfterTerminal}
use Rattle.pipeline_language.specs.declared.version.Version.{Version}
use Rattle.pipeline_language.specs.declared.version.Version.TheVariants.{One, Two}
use Rattle.pipeline_language.specs.Form.{IsLineOf, LineFault}
use Rattle.pipeline_language.specs.declared.grammar.Line.TheVariants as body_lines
use Rattle.pipeline_language.specs.Syntax.{Origin, origins, origin_kind, text_count, Stage, Coming, after_stage, bodies, Program}

-- the most bytes of a file
abbrev pub most_bytes : ℕ
most_bytes = 1048576

-- the first line of a file of a version
abbrev pub first_line : Version → List ℕ
first_line One = codes "pipeline 1"
first_line Two = codes "pipeline 2"

-- what comes from a source, before any stage
abbrev pub from_origin : Version → Origin → Coming
from_origin version origin = record { version = version; kind = origin_kind origin; stages = 0 }

-- Each line is that of its stage, which takes what comes to it.
abbrev pub AreStageLines : Coming → List (List ℕ) → List Stage → Type 0
AreStageLines coming [] [] = Unit {0}
AreStageLines coming [] (stage ∷ stages) = ⊥
AreStageLines coming (line ∷ lines) [] = ⊥
AreStageLines coming (line ∷ lines) (stage ∷ stages) = IsLineOf (bodies coming) line (body_lines.Stage stage) × AreStageLines (after_stage coming stage) lines stages

-- what comes to the line behind stages
abbrev pub after_stages : Coming → List Stage → Coming
after_stages coming [] = coming
after_stages coming (stage ∷ stages) = after_stages (after_stage coming stage) stages

-- Each line is a text.
abbrev pub AreTexts : List (List ℕ) → Type 0
AreTexts [] = Unit {0}
AreTexts (text ∷ texts) = IsUtf8 text × AreTexts texts

-- The lines of a whole file: the version, the source line with its texts, the stage lines, the terminal line.
pub record IsProgramOf (lines : List (List ℕ)) (program : Program) : Type 0 where
  pub version : Version
  pub origin_line : List ℕ
  pub stage_lines : List (List ℕ)
  pub terminal_line : List ℕ
  pub whole : lines ≡ first_line version ∷ origin_line ∷ program.texts ++ (stage_lines ++ terminal_line ∷ [])
  pub origin : IsLineOf origins origin_line program.origin
  pub texts : AreTexts program.texts
  pub number : length program.texts ≡ text_count program.origin
  pub stages : AreStageLines (from_origin version program.origin) stage_lines program.stages
  pub terminal : IsLineOf (bodies (after_stages (from_origin version program.origin) program.stages)) terminal_line (body_lines.Terminal program.terminal)

-- The lines of a file up to one of its texts.
pub record IsBeginningOfTexts (lines : List (List ℕ)) : Type 0 where
  pub version : Version
  pub origin_line : List ℕ
  pub source : Origin
  pub lines_read : List (List ℕ)
  pub whole : lines ≡ first_line version ∷ origin_line ∷ lines_read
  pub origin : IsLineOf origins origin_line source
  pub texts : AreTexts lines_read
  pub number : length lines_read < text_count source

-- The lines of a file up to a line of its body, with what comes to that.
pub record IsBeginningOf (lines : List (List ℕ)) (coming : Coming) : Type 0 where
  pub version : Version
  pub origin_line : List ℕ
  pub source : Origin
  pub lines_read : List (List ℕ)
  pub stage_lines : List (List ℕ)
  pub steps : List Stage
  pub whole : lines ≡ first_line version ∷ origin_line ∷ lines_read ++ stage_lines
  pub origin : IsLineOf origins origin_line source
  pub texts : AreTexts lines_read
  pub number : length lines_read ≡ text_count source
  pub stages : AreStageLines (from_origin version source) stage_lines steps
  pub comes : coming ≡ after_stages (from_origin version source) steps

-- What a line has to be: the version, the source, a text, a stage or the terminal behind what comes to it, or none at all.
pub data Place : Type 0 where
  VersionPlace : Place
  SourcePlace : Place
  TextPlace : Place
  BodyPlace : Coming → Place
  EndPlace : Place

-- The lines are a beginning of a well formed file, and the next line has its place.
abbrev pub LeadsTo : List (List ℕ) → Place → Type 0
LeadsTo lines VersionPlace = lines ≡ []
LeadsTo lines SourcePlace = (version : Version) × (lines ≡ first_line version ∷ [])
LeadsTo lines TextPlace = IsBeginningOfTexts lines
LeadsTo lines (BodyPlace coming) = IsBeginningOf lines coming
LeadsTo lines EndPlace = (program : Program) × IsProgramOf lines program

-- the fault of a first line that is none of the versions'
abbrev pub VersionFault : List ℕ → FileError → Type 0
VersionFault line kind = ((IsUtf8 line → ⊥) × (kind ≡ BadText)) ⊎ (IsUtf8 line × ((version : Version) → line ≡ first_line version → ⊥) × (kind ≡ BadVersion))

-- the fault of a line at its place
abbrev pub FaultAt : Place → List ℕ → FileError → Type 0
FaultAt VersionPlace line kind = VersionFault line kind
FaultAt SourcePlace line kind = LineFault origins line kind
FaultAt TextPlace line kind = (IsUtf8 line → ⊥) × (kind ≡ BadText)
FaultAt (BodyPlace coming) line kind = LineFault (bodies coming) line kind
FaultAt EndPlace line kind = ((IsUtf8 line → ⊥) × (kind ≡ BadText)) ⊎ (IsUtf8 line × (kind ≡ AfterTerminal))

-- the fault of a file that ends where a line has to come
abbrev pub FaultAtEnd : Place → FileError → Type 0
FaultAtEnd VersionPlace kind = kind ≡ BadVersion
FaultAtEnd EndPlace kind = ⊥
FaultAtEnd place kind = kind ≡ MissingTerminal

-- What comes next has the fault: the first of the lines left, or their want.
abbrev pub FaultOfNext : Place → List (List ℕ) → FileError → Type 0
FaultOfNext place [] kind = FaultAtEnd place kind
FaultOfNext place (line ∷ lines) kind = FaultAt place line kind

-- The fault of the lines: those before it are well formed.
pub record IsFaultOfLines (lines : List (List ℕ)) (fault : FileFault) : Type 0 where
  pub before : List (List ℕ)
  pub left : List (List ℕ)
  pub place : Place
  pub whole : lines ≡ before ++ left
  pub leads : LeadsTo before place
  pub line : fault.line ≡ length before + 1
  pub here : FaultOfNext place left fault.kind

-- What a file means.
abbrev pub Means : List ℕ → Program → Type 0
Means file program = (length file ≤ most_bytes) × IsProgramOf (lines_of file) program

-- The fault of a file.
abbrev pub HasFault : List ℕ → FileFault → Type 0
HasFault file fault = ((most_bytes < length file) × (fault ≡ record { line = 0; kind = TooLarge }))
    ⊎ ((length file ≤ most_bytes) × IsFaultOfLines (lines_of file) fault)

-- There is one at most.
abbrev pub AtMostOne : {X : Type 0} → (X → Type 0) → Type 0
AtMostOne {X} P = (one other : X) → P one → P other → one ≡ other

-- The file means something; it has a fault.
abbrev pub HasMeaning : List ℕ → Type 0
HasMeaning file = (program : Program) × Means file program

abbrev pub IsFaulty : List ℕ → Type 0
IsFaulty file = (fault : FileFault) × HasFault file fault
