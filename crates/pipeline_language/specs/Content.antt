-- The things of a line over numbers, and over texts that are lent from a file.
use Rattle.std.specs.Prelude.{ℕ, List, [], ◌∷◌, ◌++◌, map, length, ◌≡◌, Bool, true, false, ◌&&◌, Option, Some, None}
use Rattle.std.specs.Borrow.{Bor}
use Rattle.pipeline_language.specs.declared.{item_count.ItemCount.ItemCount, pipeline.Mapped.Mapped, pipeline.NumberFunction.NumberFunction, pipeline.TextFunction.TextFunction, pipeline.TextMerge.TextMerge, pipeline.Pipeline.Pipeline, pipeline.NumberBody.NumberBody, pipeline.TextBody.TextBody, pipeline.TextEnd.TextEnd, pipeline.NumberSource.NumberSource, ranges.OpenRange.OpenRange, ranges.ClosedRange.ClosedRange, kinds.TextLine.TextLine, line.Source.Source, line.NamedSource.NamedSource}
use Rattle.pipeline_language.specs.Syntax.{Condition, Base, Inner, Summary, Stage, Joint, Terminal, BodyLine, Change, Function, Itself, Length, Map, Merge, Mod, OfNumbers, OfTexts, Repeat, Origin, Range, Closed, Numbers, Lines, Program, TextKind, function_takes, merge_takes, value_kind}
use Rattle.pipeline_language.specs.Grammar as grammar
use Rattle.pipeline_language.specs.declared.pipeline.Pipeline.TheVariants as pipelines
use Rattle.pipeline_language.specs.declared.pipeline.TextEnd.TheVariants as ends
use Rattle.pipeline_language.specs.declared.pipeline.NumberSource.TheVariants as sources
use Rattle.pipeline_language.specs.declared.pipeline.NumberFunction.TheVariants as number_functions
use Rattle.pipeline_language.specs.declared.pipeline.TextFunction.TheVariants as text_functions
use Rattle.pipeline_language.specs.declared.pipeline.TextMerge.TheVariants as text_merges
use Rattle.pipeline_language.specs.declared.grammar.Merge.TheVariants as merges
use Rattle.pipeline_language.specs.declared.pipeline.Mapped.TheVariants as values
use Rattle.pipeline_language.specs.declared.kinds.TextLine.TheVariants as text_lines
use Rattle.pipeline_language.specs.declared.line.Source.TheVariants as line_sources
use Rattle.pipeline_language.specs.declared.line.NamedSource.TheVariants as named
use Rattle.pipeline_language.specs.declared.grammar.Line.TheVariants as body_lines

-- a text that is lent from a file
abbrev pub Text : Type 0
Text = Bor (List ℕ)

abbrev pub TextTest : Type 0
TextTest = grammar.TextCondition Text

abbrev pub NumberStage : Type 0
NumberStage = grammar.Stage NumberFunction grammar.NumberTest ℕ ItemCount

abbrev pub TextStage : Type 0
TextStage = grammar.Stage (Unit {0}) TextTest grammar.Expansion ItemCount

abbrev pub NumberBase : Type 0
NumberBase = grammar.Base grammar.NumberOnly

abbrev pub NumberInner : Type 0
NumberInner = grammar.Inner (NumberFunction × NumberBase) grammar.NumberTest NumberBase

abbrev pub NumberSummary : Type 0
NumberSummary = grammar.Summary NumberFunction (NumberFunction × NumberInner) grammar.NumberTest NumberBase NumberInner

abbrev pub TextBase : Type 0
TextBase = grammar.Base Text

abbrev pub TextInner : Type 0
TextInner = grammar.Inner (Mapped NumberBase TextBase) TextTest TextBase

abbrev pub TextSummary : Type 0
TextSummary = grammar.Summary TextFunction (Mapped NumberInner TextInner) TextTest TextBase TextInner

abbrev pub TextValue : Type 0
TextValue = Mapped grammar.Merge TextMerge

abbrev pub NumberTerminal : Type 0
NumberTerminal = grammar.Terminal NumberFunction grammar.NumberTest NumberSummary (NumberFunction × grammar.Merge) grammar.NumberTotal

abbrev pub TextTerminal : Type 0
TextTerminal = grammar.Terminal TextFunction TextTest TextSummary TextValue (grammar.Joint Text)

-- What a line says, by its content.

-- what has no text in it stands as it is
abbrev pub as_read : {X : Type 0} → X → X
as_read x = x

-- a number of items stands by the number
abbrev pub count_content : ItemCount → ℕ
count_content count = count.number

abbrev pub text_content : Text → List ℕ
text_content text = text.now

abbrev pub LentCondition : Type 0
LentCondition = grammar.OfKind grammar.NumberTest TextTest

abbrev pub condition_content : LentCondition → Condition
condition_content p = grammar.of_kind as_read (grammar.text_condition text_content) p

abbrev pub LentBase : Type 0
LentBase = grammar.Base (grammar.OfKind grammar.NumberOnly Text)

abbrev pub base_content : LentBase → Base
base_content b = grammar.base (grammar.of_kind as_read text_content) b

abbrev pub LentInner : Type 0
LentInner = grammar.Inner (grammar.Function × LentBase) LentCondition LentBase

abbrev pub inner_content : LentInner → Inner
inner_content inner = grammar.inner (λ m. (m.0, base_content m.1)) condition_content base_content inner

abbrev pub LentSummary : Type 0
LentSummary = grammar.Summary grammar.Function (grammar.Function × LentInner) LentCondition LentBase LentInner

abbrev pub summary_content : LentSummary → Summary
summary_content summary = grammar.summary as_read (λ m. (m.0, inner_content m.1)) condition_content base_content inner_content summary

abbrev pub LentStage : Type 0
LentStage = grammar.Stage grammar.Function LentCondition grammar.Expansion ItemCount

abbrev pub stage_content : LentStage → Stage
stage_content stage = grammar.stage as_read condition_content as_read count_content stage

abbrev pub joint_content : grammar.Joint Text → Joint
joint_content joint = grammar.joint text_content joint

abbrev pub LentTerminal : Type 0
LentTerminal = grammar.Terminal grammar.Function LentCondition LentSummary (grammar.Function × grammar.Merge) (grammar.OfKind grammar.NumberTotal (grammar.Joint Text))

abbrev pub terminal_content : LentTerminal → Terminal
terminal_content terminal = grammar.terminal as_read condition_content summary_content as_read (grammar.of_kind as_read joint_content) terminal

abbrev pub body_line_content : grammar.Line LentStage LentTerminal → BodyLine
body_line_content line = grammar.line stage_content terminal_content line

-- What is read, by its content: a text is its bytes, and a list has no place and no room.

abbrev pub open_origin : OpenRange → Origin
open_origin range = Range range.start range.end

abbrev pub closed_origin : ClosedRange → Origin
closed_origin range = Closed range.start range.last

abbrev pub number_origin : NumberSource → Origin
number_origin (sources.Range range) = open_origin range
number_origin (sources.Closed range) = closed_origin range
number_origin (sources.Numbers numbers) = Numbers numbers.items

abbrev pub number_function : NumberFunction → Function
number_function (number_functions.Change change) = Change change
number_function (number_functions.Mod n) = Mod n
number_function number_functions.Itself = Itself

abbrev pub text_function : TextFunction → Function
text_function text_functions.Length = Length
text_function text_functions.Itself = Itself

abbrev pub number_test : grammar.NumberTest → Condition
number_test p = OfNumbers p

abbrev pub text_test : TextTest → Condition
text_test p = OfTexts (grammar.text_condition text_content p)

abbrev pub text_merge : TextMerge → Merge
text_merge text_merges.First = merges.First
text_merge text_merges.Last = merges.Last

-- What follows a function of numbers, and a value of texts.
abbrev pub number_mapped : {B C : Type 0} → (B → C) → NumberFunction × B → Function × C
number_mapped behind m = (number_function m.0, behind m.1)

abbrev pub text_mapped : {L I C : Type 0} → (L → C) → (I → C) → Mapped L I → Function × C
text_mapped length itself (values.Length x) = (Length, length x)
text_mapped length itself (values.Itself x) = (Itself, itself x)

abbrev pub number_base : NumberBase → Base
number_base base = grammar.base OfNumbers base

abbrev pub number_inner : NumberInner → Inner
number_inner inner = grammar.inner (number_mapped number_base) number_test number_base inner

abbrev pub number_summary : NumberSummary → Summary
number_summary summary = grammar.summary number_function (number_mapped number_inner) number_test number_base number_inner summary

abbrev pub text_base : TextBase → Base
text_base base = grammar.base (λ x. OfTexts (text_content x)) base

abbrev pub text_inner : TextInner → Inner
text_inner inner = grammar.inner (text_mapped number_base text_base) text_test text_base inner

abbrev pub text_summary : TextSummary → Summary
text_summary summary = grammar.summary text_function (text_mapped number_inner text_inner) text_test text_base text_inner summary

abbrev pub number_stage : NumberStage → Stage
number_stage stage = grammar.stage number_function number_test Repeat count_content stage

abbrev pub text_stage : TextStage → Stage
text_stage stage = grammar.stage (λ _. Itself) text_test as_read count_content stage

abbrev pub number_terminal : NumberTerminal → Terminal
number_terminal terminal = grammar.terminal number_function number_test number_summary (number_mapped as_read) OfNumbers terminal

abbrev pub text_value : TextValue → Function × Merge
text_value value = text_mapped as_read text_merge value

abbrev pub text_terminal : TextTerminal → Terminal
text_terminal terminal = grammar.terminal text_function text_test text_summary text_value (λ joint. OfTexts (joint_content joint)) terminal

-- the stages and the terminal of a body
abbrev pub Body : Type 0
Body = List Stage × Terminal

abbrev pub number_body : NumberBody → Body
number_body body = (map number_stage body.stages.items, number_terminal body.terminal)

abbrev pub text_end : TextEnd → Body
text_end (ends.Terminal terminal) = ([], text_terminal terminal)
text_end (ends.Lengths body) = (Map Length ∷ map number_stage body.stages.items, number_terminal body.terminal)

abbrev pub text_body : TextBody → Body
text_body body = (map text_stage body.stages.items ++ (text_end body.end).0, (text_end body.end).1)

-- what a pipeline is as a program
abbrev pub program_of : Pipeline → Program
program_of (pipelines.Numbers source body) = record { origin = number_origin source; texts = []; stages = (number_body body).0; terminal = (number_body body).1 }
program_of (pipelines.Texts texts body) = record { origin = Lines (length texts.items); texts = map (λ text. text.now) texts.items; stages = (text_body body).0; terminal = (text_body body).1 }

-- Which things of a line the items take.

-- What is answered is the thing, where it takes the items, and else nothing.
abbrev pub Takes : {X Y : Type 0} → (X → Y) → (Y → Bool) → Y → Option X → Type 0
Takes content takes thing (Some x) = (content x ≡ thing) × (takes thing ≡ true)
Takes content takes thing None = takes thing ≡ false

abbrev pub NumberLine : Type 0
NumberLine = grammar.Line NumberStage NumberTerminal

abbrev pub number_line_content : NumberLine → BodyLine
number_line_content line = grammar.line number_stage number_terminal line

abbrev pub text_line_content : TextLine → BodyLine
text_line_content (text_lines.Stage stage) = body_lines.Stage (text_stage stage)
text_line_content text_lines.Lengths = body_lines.Stage (Map Length)
text_line_content (text_lines.Terminal terminal) = body_lines.Terminal (text_terminal terminal)

-- a value of a map, with its merge
abbrev pub value_takes : Function × Merge → Bool
value_takes pair = function_takes TextKind pair.0 && merge_takes (value_kind TextKind pair.0) pair.1

abbrev pub source_content : Source → Origin
source_content (line_sources.Numbers source) = number_origin source
source_content (line_sources.Lines count) = Lines count

abbrev pub named_content : NamedSource → Origin
named_content (named.Range a b) = Range a b
named_content (named.Closed a b) = Closed a b
named_content (named.Numbers numbers) = Numbers numbers.items
named_content (named.Lines count) = Lines count
