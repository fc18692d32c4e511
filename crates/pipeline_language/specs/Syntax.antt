-- What may stand in a file, each thing with its words, and the items that it takes.
use Rattle.std.specs.Prelude.{ℕ, ◌+◌, ◌+ℤ◌, ◌-ℤ◌, ℤ, pos, Bool, true, false, ◌&&◌, nat_le, nat_lt, List, [], ◌∷◌, ◌++◌, map, codes, Result, Ok, if◌then◌else◌}
use Rattle.file_words.specs.declared.fault.FileError.TheVariants.{RangeTooLong, TooManyStages}
use Rattle.pipeline_language.specs.{declared.version.Version.Version, Steps.steps_up}
use Rattle.pipeline_language.specs.declared.version.Version.TheVariants.{One, Two}
use Rattle.pipeline_language.specs.Form.{Slot, Name, EitherName, Number, AnyWord, number, natural, divisor, Forms, all_known}
pub use Rattle.pipeline_language.specs.Grammar.{Distinct, Counted, While, Empty, Starts, Longer, Expansion, Repeat, Words, Function, Change, Mod, Length, Itself, Plain, Within, Merge, OfNumbers, OfTexts, Map, Filter, FlatMap, Barrier, Whole, Match, GroupBy, Partition, ToMap, ToMapStrict, Teeing, Own}
use Rattle.file_words.specs.declared.fault.FileError.{FileError}
use Rattle.file_words.specs.Words.{lowest, highest}
use Rattle.file_words.specs.WordReading.{◌>>=◌, Left, is_done, Reader, next_word, next_number, next_natural, all_numbers}
use Rattle.pipeline_language.specs.Reading.{ByName, named, made_of, unknown, by_name, nothing, both}
use Rattle.pipeline_language.specs.Grammar as grammar
use Rattle.pipeline_language.specs.declared.grammar.AllItems.TheVariants.{Count, FindFirst, ToList}
use Rattle.pipeline_language.specs.declared.grammar.Base.TheVariants as bases
use Rattle.pipeline_language.specs.declared.grammar.Inner.TheVariants as inners
use Rattle.pipeline_language.specs.declared.grammar.Line.TheVariants as body_lines
use Rattle.pipeline_language.specs.declared.grammar.Merge.TheVariants as merges
use Rattle.pipeline_language.specs.declared.grammar.NumberChange.TheVariants.{Add, Mul, Negate}
use Rattle.pipeline_language.specs.declared.grammar.NumberOnly.TheVariants as only
use Rattle.pipeline_language.specs.declared.grammar.NumberTest.TheVariants.{Less, Greater, Equals, Divisible}
use Rattle.pipeline_language.specs.declared.grammar.NumberTotal.TheVariants as totals
use Rattle.pipeline_language.specs.declared.grammar.Part.TheVariants.{Front, Rest}
use Rattle.pipeline_language.specs.declared.grammar.Quantifier.TheVariants.{AllMatch, AnyMatch, NoneMatch}
use Rattle.pipeline_language.specs.declared.grammar.Summary.TheVariants as summaries
use Rattle.pipeline_language.specs.declared.grammar.Barrier as barrier_types

-- The things of a line are those that are read, and a text in them stands by its bytes.
abbrev pub Condition : Type 0
Condition = grammar.OfKind grammar.NumberTest (grammar.TextCondition (List ℕ))

-- what is made of items at once
abbrev pub Base : Type 0
Base = grammar.Base (grammar.OfKind grammar.NumberOnly (List ℕ))

-- what is made of them inside another collector
abbrev pub Inner : Type 0
Inner = grammar.Inner (Function × Base) Condition Base

-- what is made of them
abbrev pub Summary : Type 0
Summary = grammar.Summary Function (Function × Inner) Condition Base Inner

abbrev pub Barring : Type 0
Barring = barrier_types.Barrier Condition ℕ

abbrev pub Stage : Type 0
Stage = grammar.Stage Function Condition Expansion ℕ

abbrev pub Joint : Type 0
Joint = grammar.Joint (List ℕ)

abbrev pub Terminal : Type 0
Terminal = grammar.Terminal Function Condition Summary (Function × Merge) (grammar.OfKind grammar.NumberTotal Joint)

pub data Origin : Type 0 where
  Range : ℤ → ℤ → Origin
  Closed : ℤ → ℤ → Origin
  Numbers : List ℤ → Origin
  Lines : ℕ → Origin

-- MAP
abbrev pub function_slots : Function → List Slot
function_slots (Change (Add n)) = Name (codes "add") ∷ number n ∷ []
function_slots (Change (Mul n)) = Name (codes "mul") ∷ number n ∷ []
function_slots (Change Negate) = Name (codes "negate") ∷ []
function_slots (Mod n) = Name (codes "mod") ∷ divisor n ∷ []
function_slots Length = Name (codes "length") ∷ []
function_slots Itself = Name (codes "self") ∷ []

-- TEST
abbrev pub condition_slots : Condition → List Slot
condition_slots (OfNumbers (Less n)) = Name (codes "less") ∷ number n ∷ []
condition_slots (OfNumbers (Greater n)) = Name (codes "greater") ∷ number n ∷ []
condition_slots (OfNumbers (Equals n)) = Name (codes "equals") ∷ number n ∷ []
condition_slots (OfNumbers (Divisible n)) = Name (codes "divisible") ∷ divisor n ∷ []
condition_slots (OfTexts Empty) = Name (codes "empty") ∷ []
condition_slots (OfTexts (Starts front)) = Name (codes "starts") ∷ AnyWord front ∷ []
condition_slots (OfTexts (Longer n)) = Name (codes "longer") ∷ natural n ∷ []

-- BASE
abbrev pub base_slots : Base → List Slot
base_slots bases.Count = EitherName (codes "count") (codes "counting") ∷ []
base_slots (bases.Own (OfNumbers only.Sum)) = Name (codes "sum") ∷ []
base_slots (bases.Own (OfNumbers only.Max)) = Name (codes "max") ∷ []
base_slots (bases.Own (OfNumbers only.Min)) = Name (codes "min") ∷ []
base_slots bases.First = Name (codes "first") ∷ []
base_slots bases.ToList = Name (codes "tolist") ∷ []
base_slots (bases.Own (OfTexts between)) = Name (codes "joining") ∷ AnyWord between ∷ []

-- INNER
abbrev pub inner_slots : Inner → List Slot
inner_slots (inners.Base base) = base_slots base
inner_slots (inners.Mapping (f, base)) = Name (codes "mapping") ∷ function_slots f ++ base_slots base
inner_slots (inners.Filtering p base) = Name (codes "filtering") ∷ condition_slots p ++ base_slots base

-- COLL
abbrev pub summary_slots : Summary → List Slot
summary_slots (summaries.Base base) = base_slots base
summary_slots (summaries.Mapping (f, inner)) = Name (codes "mapping") ∷ function_slots f ++ inner_slots inner
summary_slots (summaries.Filtering p inner) = Name (codes "filtering") ∷ condition_slots p ++ inner_slots inner
summary_slots (summaries.GroupBy f inner) = Name (codes "groupby") ∷ function_slots f ++ inner_slots inner

-- MERGE
abbrev pub merge_slots : Merge → List Slot
merge_slots merges.First = Name (codes "first") ∷ []
merge_slots merges.Last = Name (codes "last") ∷ []
merge_slots merges.Sum = Name (codes "sum") ∷ []
merge_slots merges.Max = Name (codes "max") ∷ []
merge_slots merges.Min = Name (codes "min") ∷ []

-- what `flatmap` puts in an item's place
abbrev pub expansion_slots : Expansion → List Slot
expansion_slots (Repeat n) = Name (codes "repeat") ∷ Number (pos 0) (pos 1000) (pos n) ∷ []
expansion_slots Words = Name (codes "words") ∷ []

abbrev pub stage_slots : Stage → List Slot
stage_slots (Map f) = Name (codes "map") ∷ function_slots f
stage_slots (Filter p) = Name (codes "filter") ∷ condition_slots p
stage_slots (FlatMap expansion) = Name (codes "flatmap") ∷ expansion_slots expansion
stage_slots (Barrier Distinct) = Name (codes "distinct") ∷ []
stage_slots (Barrier (Counted Front n)) = Name (codes "limit") ∷ natural n ∷ []
stage_slots (Barrier (Counted Rest n)) = Name (codes "skip") ∷ natural n ∷ []
stage_slots (Barrier (While Front p)) = Name (codes "takewhile") ∷ condition_slots p
stage_slots (Barrier (While Rest p)) = Name (codes "dropwhile") ∷ condition_slots p

-- what follows the name `joining` of a terminal: the text between, or also a front and a back
abbrev pub joint_slots : Joint → List Slot
joint_slots (Plain between) = AnyWord between ∷ []
joint_slots (Within between front back) = AnyWord between ∷ AnyWord front ∷ AnyWord back ∷ []

abbrev pub terminal_slots : Terminal → List Slot
terminal_slots (Own (OfNumbers totals.Sum)) = Name (codes "sum") ∷ []
terminal_slots (Own (OfNumbers totals.Product)) = Name (codes "product") ∷ []
terminal_slots (Own (OfNumbers totals.Max)) = Name (codes "max") ∷ []
terminal_slots (Own (OfNumbers totals.Min)) = Name (codes "min") ∷ []
terminal_slots (Whole Count) = Name (codes "count") ∷ []
terminal_slots (Whole FindFirst) = Name (codes "findfirst") ∷ []
terminal_slots (Whole ToList) = Name (codes "tolist") ∷ []
terminal_slots (Match AllMatch p) = Name (codes "allmatch") ∷ condition_slots p
terminal_slots (Match AnyMatch p) = Name (codes "anymatch") ∷ condition_slots p
terminal_slots (Match NoneMatch p) = Name (codes "nonematch") ∷ condition_slots p
terminal_slots (Own (OfTexts joint)) = Name (codes "joining") ∷ joint_slots joint
terminal_slots (GroupBy f summary) = Name (codes "groupby") ∷ function_slots f ++ summary_slots summary
terminal_slots (Partition p summary) = Name (codes "partition") ∷ condition_slots p ++ summary_slots summary
terminal_slots (ToMap key (value, merge)) = Name (codes "tomap") ∷ function_slots key ++ (function_slots value ++ merge_slots merge)
terminal_slots (ToMapStrict key value) = Name (codes "tomapstrict") ∷ function_slots key ++ function_slots value
terminal_slots (Teeing one other) = Name (codes "teeing") ∷ summary_slots one ++ summary_slots other

abbrev pub origin_slots : Origin → List Slot
origin_slots (Range a b) = Name (codes "range") ∷ number a ∷ number b ∷ []
origin_slots (Closed a b) = Name (codes "closed") ∷ number a ∷ number b ∷ []
origin_slots (Numbers ns) = Name (codes "numbers") ∷ map number ns
origin_slots (Lines n) = Name (codes "lines") ∷ Number (pos 0) (pos 1000000) (pos n) ∷ []

-- the most items of a range
abbrev pub most_items : ℕ
most_items = 4611686018427387904

-- a range has no more items than that
abbrev pub is_short : Origin → Bool
is_short (Range a b) = nat_le (steps_up (b -ℤ a)) most_items
is_short (Closed a b) = nat_le (steps_up ((b +ℤ pos 1) -ℤ a)) most_items
is_short origin = true

abbrev pub origins : Forms Origin
origins = record { slots = origin_slots; known = all_known; takes_kind = λ _. true; in_limits = is_short; limit_fault = RangeTooLong }

-- The names `mapping`, `filtering` and `groupby` of collectors, and `tomapstrict`, are of the second version.
abbrev pub has_new_names : Version → Bool
has_new_names One = false
has_new_names Two = true

abbrev pub summary_known : Version → Summary → Bool
summary_known version (summaries.Base base) = true
summary_known version summary = has_new_names version

abbrev pub terminal_known : Version → Terminal → Bool
terminal_known version (GroupBy f summary) = summary_known version summary
terminal_known version (Partition p summary) = summary_known version summary
terminal_known version (ToMapStrict key value) = has_new_names version
terminal_known version (Teeing one other) = summary_known version one && summary_known version other
terminal_known version terminal = true

-- Kinds of items.
pub data Kind : Type 0 where
  NumberKind : Kind
  TextKind : Kind

abbrev pub is_number : Kind → Bool
is_number NumberKind = true
is_number TextKind = false

abbrev pub is_text : Kind → Bool
is_text NumberKind = false
is_text TextKind = true

-- the kind of a source's items, and how many lines of text follow it
abbrev pub origin_kind : Origin → Kind
origin_kind (Lines n) = TextKind
origin_kind origin = NumberKind

abbrev pub text_count : Origin → ℕ
text_count (Lines n) = n
text_count origin = 0

-- The function takes items of the kind.
abbrev pub function_takes : Kind → Function → Bool
function_takes kind Length = is_text kind
function_takes kind Itself = true
function_takes kind f = is_number kind

-- the kind of its values
abbrev pub value_kind : Kind → Function → Kind
value_kind kind Itself = kind
value_kind kind f = NumberKind

-- what stands for one kind alone
abbrev pub own_takes : {N T : Type 0} → Kind → grammar.OfKind N T → Bool
own_takes kind (OfNumbers x) = is_number kind
own_takes kind (OfTexts x) = is_text kind

abbrev pub base_takes : Kind → Base → Bool
base_takes kind (bases.Own own) = own_takes kind own
base_takes kind base = true

-- Behind a function come items of the kind of its values.
abbrev pub inner_takes : Kind → Inner → Bool
inner_takes kind (inners.Base base) = base_takes kind base
inner_takes kind (inners.Mapping (f, base)) = function_takes kind f && base_takes (value_kind kind f) base
inner_takes kind (inners.Filtering p base) = own_takes kind p && base_takes kind base

abbrev pub summary_takes : Kind → Summary → Bool
summary_takes kind (summaries.Base base) = base_takes kind base
summary_takes kind (summaries.Mapping (f, inner)) = function_takes kind f && inner_takes (value_kind kind f) inner
summary_takes kind (summaries.Filtering p inner) = own_takes kind p && inner_takes kind inner
summary_takes kind (summaries.GroupBy f inner) = function_takes kind f && inner_takes kind inner

abbrev pub merge_takes : Kind → Merge → Bool
merge_takes kind merges.First = true
merge_takes kind merges.Last = true
merge_takes kind merge = is_number kind

abbrev pub expansion_takes : Kind → Expansion → Bool
expansion_takes kind (Repeat n) = true
expansion_takes kind Words = is_text kind

abbrev pub stage_takes : Kind → Stage → Bool
stage_takes kind (Map f) = function_takes kind f
stage_takes kind (Filter p) = own_takes kind p
stage_takes kind (FlatMap expansion) = expansion_takes kind expansion
stage_takes kind (Barrier (While part p)) = own_takes kind p
stage_takes kind (Barrier barrier) = true

-- the kind of the items after a stage
abbrev pub kind_after : Kind → Stage → Kind
kind_after kind (Map f) = value_kind kind f
kind_after kind stage = kind

abbrev pub terminal_takes : Kind → Terminal → Bool
terminal_takes kind (Match of p) = own_takes kind p
terminal_takes kind (GroupBy f summary) = function_takes kind f && summary_takes kind summary
terminal_takes kind (Partition p summary) = own_takes kind p && summary_takes kind summary
terminal_takes kind (ToMap key (value, merge)) = function_takes kind key && (function_takes kind value && merge_takes (value_kind kind value) merge)
terminal_takes kind (ToMapStrict key value) = function_takes kind key && function_takes kind value
terminal_takes kind (Teeing one other) = summary_takes kind one && summary_takes kind other
terminal_takes kind (Own own) = own_takes kind own
terminal_takes kind terminal = true

-- A line of the body is a stage or the terminal: the names of both stand at its first place.
abbrev pub BodyLine : Type 0
BodyLine = grammar.Line Stage Terminal

abbrev pub body_slots : BodyLine → List Slot
body_slots (body_lines.Stage stage) = stage_slots stage
body_slots (body_lines.Terminal terminal) = terminal_slots terminal

abbrev pub body_known : Version → BodyLine → Bool
body_known version (body_lines.Stage stage) = true
body_known version (body_lines.Terminal terminal) = terminal_known version terminal

abbrev pub body_takes : Kind → BodyLine → Bool
body_takes kind (body_lines.Stage stage) = stage_takes kind stage
body_takes kind (body_lines.Terminal terminal) = terminal_takes kind terminal

abbrev pub most_stages : ℕ
most_stages = 32

-- a stage has its place among the first 32
abbrev pub has_room : ℕ → BodyLine → Bool
has_room before (body_lines.Stage stage) = nat_lt before most_stages
has_room before (body_lines.Terminal terminal) = true

-- What comes to a line of a file of a version: items of a kind, from so many stages.
pub record Coming : Type 0 where
  pub version : Version
  pub kind : Kind
  pub stages : ℕ

-- what comes to a line with so many stages before it
abbrev pub comes : Version → Kind → ℕ → Coming
comes version kind before = record { version = version; kind = kind; stages = before }

-- what comes to the line after a stage
abbrev pub after_stage : Coming → Stage → Coming
after_stage coming stage = record { version = coming.version; kind = kind_after coming.kind stage; stages = coming.stages + 1 }

abbrev pub bodies : Coming → Forms BodyLine
bodies coming = record { slots = body_slots; known = body_known coming.version; takes_kind = body_takes coming.kind; in_limits = has_room coming.stages; limit_fault = TooManyStages }

-- A pipeline by its content: a list has no place and no room.
pub record Program : Type 0 where
  pub origin : Origin
  pub texts : List (List ℕ)
  pub stages : List Stage
  pub terminal : Terminal

-- Readings of the things of a line: a name, and what follows it by that name.

abbrev pub any_number : Reader ℤ
any_number = next_number lowest highest

abbrev pub any_divisor : Reader ℤ
any_divisor = next_number (pos 1) highest

abbrev pub any_natural : Reader ℕ
any_natural = next_natural highest

-- MAP
abbrev pub function_names : ByName Function
function_names = named (codes "add") (λ n. Change (Add n)) any_number
    (named (codes "mul") (λ n. Change (Mul n)) any_number
    (named (codes "negate") (λ _. Change Negate) nothing
    (named (codes "mod") Mod any_divisor
    (named (codes "length") (λ _. Length) nothing
    (named (codes "self") (λ _. Itself) nothing
    unknown)))))

unfoldable pub function_of : Reader Function
function_of = by_name function_names

-- TEST
abbrev pub condition_names : ByName Condition
condition_names = named (codes "less") (λ n. OfNumbers (Less n)) any_number
    (named (codes "greater") (λ n. OfNumbers (Greater n)) any_number
    (named (codes "equals") (λ n. OfNumbers (Equals n)) any_number
    (named (codes "divisible") (λ n. OfNumbers (Divisible n)) any_divisor
    (named (codes "empty") (λ _. OfTexts Empty) nothing
    (named (codes "starts") (λ front. OfTexts (Starts front)) next_word
    (named (codes "longer") (λ n. OfTexts (Longer n)) any_natural
    unknown))))))

unfoldable pub condition_of : Reader Condition
condition_of = by_name condition_names

-- BASE
unfoldable pub base_names : ByName Base
base_names = named (codes "count") (λ _. bases.Count) nothing
    (named (codes "counting") (λ _. bases.Count) nothing
    (named (codes "sum") (λ _. (bases.Own (OfNumbers only.Sum))) nothing
    (named (codes "max") (λ _. (bases.Own (OfNumbers only.Max))) nothing
    (named (codes "min") (λ _. (bases.Own (OfNumbers only.Min))) nothing
    (named (codes "first") (λ _. bases.First) nothing
    (named (codes "tolist") (λ _. bases.ToList) nothing
    (named (codes "joining") (λ t. bases.Own (OfTexts t)) next_word
    unknown)))))))

unfoldable pub base_of : Reader Base
base_of = by_name base_names

-- INNER
abbrev pub inner_names : ByName Inner
inner_names = named (codes "mapping") inners.Mapping (both function_of base_of)
    (named (codes "filtering") (λ p. inners.Filtering p.0 p.1) (both condition_of base_of)
    (made_of inners.Base base_names))

unfoldable pub inner_of : Reader Inner
inner_of = by_name inner_names

-- COLL
unfoldable pub summary_names : Version → ByName Summary
summary_names One = made_of summaries.Base base_names
summary_names Two = named (codes "mapping") summaries.Mapping (both function_of inner_of)
    (named (codes "filtering") (λ p. summaries.Filtering p.0 p.1) (both condition_of inner_of)
    (named (codes "groupby") (λ p. summaries.GroupBy p.0 p.1) (both function_of inner_of)
    (made_of summaries.Base base_names)))

unfoldable pub summary_of : Version → Reader Summary
summary_of version = by_name (summary_names version)

-- MERGE
abbrev pub merge_names : ByName Merge
merge_names = named (codes "first") (λ _. merges.First) nothing
    (named (codes "last") (λ _. merges.Last) nothing
    (named (codes "sum") (λ _. merges.Sum) nothing
    (named (codes "max") (λ _. merges.Max) nothing
    (named (codes "min") (λ _. merges.Min) nothing
    unknown))))

unfoldable pub merge_of : Reader Merge
merge_of = by_name merge_names

-- what `flatmap` puts in an item's place
abbrev pub expansion_names : ByName Expansion
expansion_names = named (codes "repeat") Repeat (next_natural (pos 1000))
    (named (codes "words") (λ _. Words) nothing
    unknown)

unfoldable pub expansion_of : Reader Expansion
expansion_of = by_name expansion_names

-- what follows the name `joining`
abbrev pub joint_after : List ℕ → Left → Result (Joint × Left) FileError
joint_after between left = if is_done left.words then (let found : Joint × Left = (Plain between, left) in Ok found)
    else (next_word left >>= λ front. next_word front.1 >>= λ back. let found : Joint × Left = (Within between front.0 back.0, back.1) in Ok found)

unfoldable pub joint_of : Reader Joint
joint_of left = next_word left >>= λ between. joint_after between.0 between.1

-- The names of terminals that the first version has not; before them those of terminals with collectors or maps, and all others.
unfoldable pub new_terminal_names : Version → ByName Terminal
new_terminal_names One = unknown
new_terminal_names Two = named (codes "tomapstrict") (λ p. ToMapStrict p.0 p.1) (both function_of function_of)
    unknown

unfoldable pub collecting_names : Version → ByName Terminal
collecting_names version = named (codes "groupby") (λ p. GroupBy p.0 p.1) (both function_of (summary_of version))
    (named (codes "partition") (λ p. Partition p.0 p.1) (both condition_of (summary_of version))
    (named (codes "tomap") (λ p. ToMap p.0 p.1) (both function_of (both function_of merge_of))
    (named (codes "teeing") (λ p. Teeing p.0 p.1) (both (summary_of version) (summary_of version))
    (new_terminal_names version))))

unfoldable pub terminal_names : Version → ByName Terminal
terminal_names version = named (codes "sum") (λ _. Own (OfNumbers totals.Sum)) nothing
    (named (codes "product") (λ _. Own (OfNumbers totals.Product)) nothing
    (named (codes "max") (λ _. Own (OfNumbers totals.Max)) nothing
    (named (codes "min") (λ _. Own (OfNumbers totals.Min)) nothing
    (named (codes "count") (λ _. Whole Count) nothing
    (named (codes "findfirst") (λ _. Whole FindFirst) nothing
    (named (codes "tolist") (λ _. Whole ToList) nothing
    (named (codes "allmatch") (λ p. Match AllMatch p) condition_of
    (named (codes "anymatch") (λ p. Match AnyMatch p) condition_of
    (named (codes "nonematch") (λ p. Match NoneMatch p) condition_of
    (named (codes "joining") (λ j. Own (OfTexts j)) joint_of
    (collecting_names version)))))))))))

-- The names of stages, and then those of terminals.
abbrev pub body_names : Version → ByName BodyLine
body_names version = named (codes "map") (λ f. body_lines.Stage (Map f)) function_of
    (named (codes "filter") (λ p. body_lines.Stage (Filter p)) condition_of
    (named (codes "flatmap") (λ e. body_lines.Stage (FlatMap e)) expansion_of
    (named (codes "distinct") (λ _. body_lines.Stage (Barrier Distinct)) nothing
    (named (codes "limit") (λ n. body_lines.Stage (Barrier (Counted Front n))) any_natural
    (named (codes "skip") (λ n. body_lines.Stage (Barrier (Counted Rest n))) any_natural
    (named (codes "takewhile") (λ p. body_lines.Stage (Barrier (While Front p))) condition_of
    (named (codes "dropwhile") (λ p. body_lines.Stage (Barrier (While Rest p))) condition_of
    (made_of body_lines.Terminal (terminal_names version)))))))))

unfoldable pub body_of : Version → Reader BodyLine
body_of version = by_name (body_names version)

abbrev pub origin_names : ByName Origin
origin_names = named (codes "range") (λ p. Range p.0 p.1) (both any_number any_number)
    (named (codes "closed") (λ p. Closed p.0 p.1) (both any_number any_number)
    (named (codes "numbers") Numbers all_numbers
    (named (codes "lines") Lines (next_natural (pos 1000000))
    unknown)))

unfoldable pub origin_words : Reader Origin
origin_words = by_name origin_names
