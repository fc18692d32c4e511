-- Things of a line with what they are made of replaced.
use Rattle.pipeline_language.specs.declared.grammar.Barrier as barriers
pub use Rattle.pipeline_language.specs.declared.grammar.Barrier.TheVariants.{Distinct, Counted, While}
pub use Rattle.pipeline_language.specs.declared.grammar.{Base.Base, Expansion.Expansion, Function.Function, Inner.Inner, Joint.Joint, Line.Line, Merge.Merge, NumberOnly.NumberOnly, NumberTest.NumberTest, NumberTotal.NumberTotal, OfKind.OfKind, Stage.Stage, Summary.Summary, Terminal.Terminal, TextCondition.TextCondition}
use Rattle.pipeline_language.specs.declared.grammar.Base.TheVariants as bases
pub use Rattle.pipeline_language.specs.declared.grammar.Expansion.TheVariants.{Repeat, Words}
pub use Rattle.pipeline_language.specs.declared.grammar.Function.TheVariants.{Change, Mod, Length, Itself}
use Rattle.pipeline_language.specs.declared.grammar.Inner.TheVariants as inners
pub use Rattle.pipeline_language.specs.declared.grammar.Joint.TheVariants.{Plain, Within}
use Rattle.pipeline_language.specs.declared.grammar.Line.TheVariants as lines
pub use Rattle.pipeline_language.specs.declared.grammar.OfKind.TheVariants.{OfNumbers, OfTexts}
pub use Rattle.pipeline_language.specs.declared.grammar.Stage.TheVariants.{Map, Filter, FlatMap, Barrier}
use Rattle.pipeline_language.specs.declared.grammar.Summary.TheVariants as summaries
pub use Rattle.pipeline_language.specs.declared.grammar.TextCondition.TheVariants.{Empty, Starts, Longer}
pub use Rattle.pipeline_language.specs.declared.grammar.Terminal.TheVariants.{Whole, Match, GroupBy, Partition, ToMap, ToMapStrict, Teeing, Own}

abbrev pub of_kind : {N M T U : Type 0} → (N → M) → (T → U) → OfKind N T → OfKind M U
of_kind number text (OfNumbers x) = OfNumbers (number x)
of_kind number text (OfTexts x) = OfTexts (text x)

abbrev pub text_condition : {T U : Type 0} → (T → U) → TextCondition T → TextCondition U
text_condition text Empty = Empty
text_condition text (Starts front) = Starts (text front)
text_condition text (Longer n) = Longer n

abbrev pub joint : {T U : Type 0} → (T → U) → Joint T → Joint U
joint text (Plain between) = Plain (text between)
joint text (Within between front back) = Within (text between) (text front) (text back)

module _ {P Q N M : Type 0} (test : P → Q) (count : N → M) where
  abbrev pub barrier : barriers.Barrier P N → barriers.Barrier Q M
  barrier Distinct = Distinct
  barrier (Counted part n) = Counted part (count n)
  barrier (While part p) = While part (test p)

abbrev pub stage : {F G P Q E D N M : Type 0} → (F → G) → (P → Q) → (E → D) → (N → M) → Stage F P E N → Stage G Q D M
stage function test expansion count (Map f) = Map (function f)
stage function test expansion count (Filter p) = Filter (test p)
stage function test expansion count (FlatMap e) = FlatMap (expansion e)
stage function test expansion count (Barrier b) = Barrier (barrier test count b)

abbrev pub base : {O N : Type 0} → (O → N) → Base O → Base N
base own bases.Count = bases.Count
base own bases.First = bases.First
base own bases.ToList = bases.ToList
base own (bases.Own x) = bases.Own (own x)

abbrev pub inner : {M N P Q B C : Type 0} → (M → N) → (P → Q) → (B → C) → Inner M P B → Inner N Q C
inner mapped test base (inners.Base b) = inners.Base (base b)
inner mapped test base (inners.Mapping m) = inners.Mapping (mapped m)
inner mapped test base (inners.Filtering p b) = inners.Filtering (test p) (base b)

abbrev pub summary : {F G M N P Q B C I J : Type 0} → (F → G) → (M → N) → (P → Q) → (B → C) → (I → J) → Summary F M P B I → Summary G N Q C J
summary function mapped test base inner (summaries.Base b) = summaries.Base (base b)
summary function mapped test base inner (summaries.Mapping m) = summaries.Mapping (mapped m)
summary function mapped test base inner (summaries.Filtering p i) = summaries.Filtering (test p) (inner i)
summary function mapped test base inner (summaries.GroupBy f i) = summaries.GroupBy (function f) (inner i)

abbrev pub terminal : {F G P Q S R V W O N : Type 0} → (F → G) → (P → Q) → (S → R) → (V → W) → (O → N) → Terminal F P S V O → Terminal G Q R W N
terminal function test summary value own (Whole made) = Whole made
terminal function test summary value own (Match of p) = Match of (test p)
terminal function test summary value own (GroupBy f s) = GroupBy (function f) (summary s)
terminal function test summary value own (Partition p s) = Partition (test p) (summary s)
terminal function test summary value own (ToMap key v) = ToMap (function key) (value v)
terminal function test summary value own (ToMapStrict key v) = ToMapStrict (function key) (function v)
terminal function test summary value own (Teeing one other) = Teeing (summary one) (summary other)
terminal function test summary value own (Own x) = Own (own x)

abbrev pub line : {S R E D : Type 0} → (S → R) → (E → D) → Line S E → Line R D
line stage terminal (lines.Stage s) = lines.Stage (stage s)
line stage terminal (lines.Terminal t) = lines.Terminal (terminal t)
