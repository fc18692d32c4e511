-- The things of a line, by their names.
use Rattle.std.proofs.Common.{◌≡◌, [], ◌∷◌, true, refl, pos, codes}
use Rattle.std.{specs.Int.Signed.le_z_yes, proofs.lemmas.Bool.false≢true}
use Rattle.pipeline_language.specs.{declared.version.Version.Version, Reading.by_name}
use Rattle.pipeline_language.specs.declared.version.Version.TheVariants.{One, Two}
use Rattle.pipeline_language.specs.Form.{number, divisor, natural, all_known}
use Rattle.file_words.specs.Words.{lowest, highest}
use Rattle.pipeline_language.specs.declared.grammar.AllItems.TheVariants.{Count, FindFirst, ToList}
use Rattle.pipeline_language.specs.declared.grammar.Base.TheVariants as bases
use Rattle.pipeline_language.specs.declared.grammar.Inner.TheVariants as inners
use Rattle.pipeline_language.specs.declared.grammar.Line.TheVariants as body_lines
use Rattle.pipeline_language.specs.declared.grammar.Merge.TheVariants as merges
use Rattle.pipeline_language.specs.declared.grammar.NumberChange.TheVariants.{Add, Mul, Negate}
use Rattle.pipeline_language.specs.declared.grammar.NumberOnly.TheVariants as only
use Rattle.pipeline_language.specs.declared.grammar.NumberTest.TheVariants.{Less, Greater, Equals, Divisible}
use Rattle.pipeline_language.specs.declared.grammar.NumberTotal.TheVariants as totals
use Rattle.pipeline_language.specs.declared.grammar.Part.TheVariants.{Front, Rest}
use Rattle.pipeline_language.specs.declared.grammar.Quantifier.TheVariants.{AllMatch, AnyMatch, NoneMatch}
use Rattle.pipeline_language.specs.declared.grammar.Summary.TheVariants as summaries
use Rattle.pipeline_language.specs.Syntax.{Barrier, Change, Counted, Distinct, Empty, Expansion, Filter, FlatMap, Function, GroupBy, Itself, Length, Longer, Map, Match, Merge, Mod, OfNumbers, OfTexts, Own, Partition, Repeat, Starts, Teeing, ToMap, ToMapStrict, While, Whole, Words, Condition, Base, Inner, Summary, Origin, Range, Closed, Numbers, Lines, BodyLine, function_slots, condition_slots, base_slots, inner_slots, summary_slots, merge_slots, expansion_slots, terminal_slots, body_slots, origin_slots, has_new_names, summary_known, terminal_known, body_known, function_names, function_of, condition_names, condition_of, base_names, base_of, inner_names, inner_of, summary_names, summary_of, merge_names, merge_of, expansion_names, expansion_of, body_names, new_terminal_names, terminal_names, body_of, origin_names, origin_words, collecting_names}
use Rattle.file_words.specs.WordReading.{next_number, next_natural}
use Rattle.pipeline_language.proofs.PhraseLemmas.{Anything, AtEnd, Phrase, Knows, Leads, nothing_phrase, both_phrase, no_leads, name_lead, either_lead, made_of_leads, named_knows, either_knows, by_name_phrase, at_end, number_phrase, natural_phrase, all_numbers_phrase, word_phrase, joint_phrase}

number_here : Phrase Anything all_known (λ n. number n ∷ []) (next_number lowest highest)
number_here = number_phrase lowest highest (le_z_yes tt) (le_z_yes tt)

divisor_here : Phrase Anything all_known (λ n. divisor n ∷ []) (next_number (pos 1) highest)
divisor_here = number_phrase (pos 1) highest (le_z_yes tt) (le_z_yes tt)

natural_here : Phrase Anything all_known (λ n. natural n ∷ []) (next_natural highest)
natural_here = natural_phrase highest (le_z_yes tt)

-- For each thing: where its names lead, and that each of its forms is read. A last clause stands for every form that those above it leave, one by one.

-- MAP
abbrev function_leads : Leads Anything all_known function_slots function_names
function_leads = name_lead (codes "add") (λ n. Change (Add n)) (λ _. refl) (λ _ _. refl) number_here
    (name_lead (codes "mul") (λ n. Change (Mul n)) (λ _. refl) (λ _ _. refl) number_here
    (name_lead (codes "negate") (λ _. Change Negate) (λ _. refl) (λ _ _. refl) nothing_phrase
    (name_lead (codes "mod") Mod (λ _. refl) (λ _ _. refl) divisor_here
    (name_lead (codes "length") (λ _. Length) (λ _. refl) (λ _ _. refl) nothing_phrase
    (name_lead (codes "self") (λ _. Itself) (λ _. refl) (λ _ _. refl) nothing_phrase
    no_leads)))))

function_knows : (x : Function) → Knows Anything (by_name function_names) (function_slots x) x
function_knows (Change Negate) = named_knows function_leads (_, refl, refl, refl)
function_knows x = named_knows function_leads (_, refl, refl, refl)

pub function_phrase : Phrase Anything all_known function_slots function_of
unfolding function_of
function_phrase = by_name_phrase function_leads (Change Negate) refl (λ x _. function_knows x)

-- TEST
abbrev condition_leads : Leads Anything all_known condition_slots condition_names
condition_leads = name_lead (codes "less") (λ n. OfNumbers (Less n)) (λ _. refl) (λ _ _. refl) number_here
    (name_lead (codes "greater") (λ n. OfNumbers (Greater n)) (λ _. refl) (λ _ _. refl) number_here
    (name_lead (codes "equals") (λ n. OfNumbers (Equals n)) (λ _. refl) (λ _ _. refl) number_here
    (name_lead (codes "divisible") (λ n. OfNumbers (Divisible n)) (λ _. refl) (λ _ _. refl) divisor_here
    (name_lead (codes "empty") (λ _. OfTexts Empty) (λ _. refl) (λ _ _. refl) nothing_phrase
    (name_lead (codes "starts") (λ front. OfTexts (Starts front)) (λ _. refl) (λ _ _. refl) word_phrase
    (name_lead (codes "longer") (λ n. OfTexts (Longer n)) (λ _. refl) (λ _ _. refl) natural_here
    no_leads))))))

condition_knows : (x : Condition) → Knows Anything (by_name condition_names) (condition_slots x) x
condition_knows (OfNumbers (Less n)) = named_knows condition_leads (_, refl, refl, refl)
condition_knows (OfTexts Empty) = named_knows condition_leads (_, refl, refl, refl)
condition_knows x = named_knows condition_leads (_, refl, refl, refl)

pub condition_phrase : Phrase Anything all_known condition_slots condition_of
unfolding condition_of
condition_phrase = by_name_phrase condition_leads (OfTexts Empty) refl (λ x _. condition_knows x)

-- BASE
abbrev base_leads : Leads Anything all_known base_slots base_names
unfolding base_names
base_leads = either_lead (codes "count") (codes "counting") (λ _. bases.Count) (λ _. refl) (λ _ _. refl) nothing_phrase
    (name_lead (codes "sum") (λ _. (bases.Own (OfNumbers only.Sum))) (λ _. refl) (λ _ _. refl) nothing_phrase
    (name_lead (codes "max") (λ _. (bases.Own (OfNumbers only.Max))) (λ _. refl) (λ _ _. refl) nothing_phrase
    (name_lead (codes "min") (λ _. (bases.Own (OfNumbers only.Min))) (λ _. refl) (λ _ _. refl) nothing_phrase
    (name_lead (codes "first") (λ _. bases.First) (λ _. refl) (λ _ _. refl) nothing_phrase
    (name_lead (codes "tolist") (λ _. bases.ToList) (λ _. refl) (λ _ _. refl) nothing_phrase
    (name_lead (codes "joining") (λ t. bases.Own (OfTexts t)) (λ _. refl) (λ _ _. refl) word_phrase
    no_leads))))))

base_knows : (x : Base) → Knows Anything (by_name base_names) (base_slots x) x
unfolding base_names
base_knows bases.Count = either_knows base_leads (_, refl, refl, refl) (_, refl, refl, refl)
base_knows (bases.Own (OfNumbers only.Sum)) = named_knows base_leads (_, refl, refl, refl)
base_knows x = named_knows base_leads (_, refl, refl, refl)

pub base_phrase : Phrase Anything all_known base_slots base_of
unfolding base_of base_names
base_phrase = by_name_phrase base_leads bases.Count refl (λ x _. base_knows x)

-- INNER
abbrev inner_leads : Leads Anything all_known inner_slots inner_names
unfolding base_names
inner_leads = name_lead (codes "mapping") inners.Mapping (λ _. refl) (λ _ _. refl) (both_phrase function_phrase base_phrase)
    (name_lead (codes "filtering") (λ p. inners.Filtering p.0 p.1) (λ _. refl) (λ _ _. refl) (both_phrase condition_phrase base_phrase)
    (made_of_leads inners.Base (λ _. refl) (λ _ _. refl) base_leads))

inner_knows : (x : Inner) → Knows Anything (by_name inner_names) (inner_slots x) x
unfolding base_names
inner_knows (inners.Base bases.Count) = either_knows inner_leads (_, refl, refl, refl) (_, refl, refl, refl)
inner_knows (inners.Base (bases.Own (OfNumbers only.Sum))) = named_knows inner_leads (_, refl, refl, refl)
inner_knows x = named_knows inner_leads (_, refl, refl, refl)

inner_phrase : Phrase Anything all_known inner_slots inner_of
unfolding inner_of base_names
inner_phrase = by_name_phrase inner_leads (inners.Base bases.Count) refl (λ x _. inner_knows x)

-- COLL
abbrev summary_leads : (version : Version) → Leads Anything (summary_known version) summary_slots (summary_names version)
unfolding base_names summary_names
summary_leads One = made_of_leads summaries.Base (λ _. refl) (λ _ _. refl) base_leads
summary_leads Two = name_lead (codes "mapping") summaries.Mapping (λ _. refl) (λ _ _. refl) (both_phrase function_phrase inner_phrase)
    (name_lead (codes "filtering") (λ p. summaries.Filtering p.0 p.1) (λ _. refl) (λ _ _. refl) (both_phrase condition_phrase inner_phrase)
    (name_lead (codes "groupby") (λ p. summaries.GroupBy p.0 p.1) (λ _. refl) (λ _ _. refl) (both_phrase function_phrase inner_phrase)
    (made_of_leads summaries.Base (λ _. refl) (λ _ _. refl) base_leads)))

summary_knows : (version : Version) (x : Summary) → summary_known version x ≡ true → Knows Anything (by_name (summary_names version)) (summary_slots x) x
unfolding base_names summary_names
summary_knows One (summaries.Base bases.Count) known = either_knows (summary_leads One) (_, refl, refl, refl) (_, refl, refl, refl)
summary_knows Two (summaries.Base bases.Count) known = either_knows (summary_leads Two) (_, refl, refl, refl) (_, refl, refl, refl)
summary_knows One (summaries.Base (bases.Own (OfNumbers only.Sum))) known = named_knows (summary_leads One) (_, refl, refl, refl)
summary_knows Two (summaries.Base (bases.Own (OfNumbers only.Sum))) known = named_knows (summary_leads Two) (_, refl, refl, refl)
summary_knows One (summaries.Base base) known = named_knows (summary_leads One) (_, refl, refl, refl)
summary_knows One x known = absurd (false≢true known)
summary_knows Two x known = named_knows (summary_leads Two) (_, refl, refl, refl)

summary_phrase : (version : Version) → Phrase Anything (summary_known version) summary_slots (summary_of version)
unfolding summary_of
summary_phrase version = by_name_phrase (summary_leads version) (summaries.Base bases.Count) refl (summary_knows version)

-- MERGE
abbrev merge_leads : Leads Anything all_known merge_slots merge_names
merge_leads = name_lead (codes "first") (λ _. merges.First) (λ _. refl) (λ _ _. refl) nothing_phrase
    (name_lead (codes "last") (λ _. merges.Last) (λ _. refl) (λ _ _. refl) nothing_phrase
    (name_lead (codes "sum") (λ _. merges.Sum) (λ _. refl) (λ _ _. refl) nothing_phrase
    (name_lead (codes "max") (λ _. merges.Max) (λ _. refl) (λ _ _. refl) nothing_phrase
    (name_lead (codes "min") (λ _. merges.Min) (λ _. refl) (λ _ _. refl) nothing_phrase
    no_leads))))

merge_knows : (x : Merge) → Knows Anything (by_name merge_names) (merge_slots x) x
merge_knows merges.Sum = named_knows merge_leads (_, refl, refl, refl)
merge_knows x = named_knows merge_leads (_, refl, refl, refl)

pub merge_phrase : Phrase Anything all_known merge_slots merge_of
unfolding merge_of
merge_phrase = by_name_phrase merge_leads merges.Sum refl (λ x _. merge_knows x)

-- what `flatmap` puts in an item's place
abbrev expansion_leads : Leads Anything all_known expansion_slots expansion_names
expansion_leads = name_lead (codes "repeat") Repeat (λ _. refl) (λ _ _. refl) (natural_phrase (pos 1000) (le_z_yes tt))
    (name_lead (codes "words") (λ _. Words) (λ _. refl) (λ _ _. refl) nothing_phrase
    no_leads)

expansion_knows : (x : Expansion) → Knows Anything (by_name expansion_names) (expansion_slots x) x
expansion_knows Words = named_knows expansion_leads (_, refl, refl, refl)
expansion_knows x = named_knows expansion_leads (_, refl, refl, refl)

pub expansion_phrase : Phrase Anything all_known expansion_slots expansion_of
unfolding expansion_of
expansion_phrase = by_name_phrase expansion_leads Words refl (λ x _. expansion_knows x)

-- a terminal
abbrev new_terminal_leads : (version : Version) → Leads AtEnd (terminal_known version) terminal_slots (new_terminal_names version)
unfolding new_terminal_names
new_terminal_leads One = no_leads
new_terminal_leads Two = name_lead (codes "tomapstrict") (λ p. ToMapStrict p.0 p.1) (λ _. refl) (λ _ _. refl) (at_end (both_phrase function_phrase function_phrase)) no_leads

abbrev terminal_leads : (version : Version) → Leads AtEnd (terminal_known version) terminal_slots (terminal_names version)
unfolding terminal_names collecting_names
terminal_leads version = name_lead (codes "sum") (λ _. Own (OfNumbers totals.Sum)) (λ _. refl) (λ _ _. refl) (at_end nothing_phrase)
    (name_lead (codes "product") (λ _. Own (OfNumbers totals.Product)) (λ _. refl) (λ _ _. refl) (at_end nothing_phrase)
    (name_lead (codes "max") (λ _. Own (OfNumbers totals.Max)) (λ _. refl) (λ _ _. refl) (at_end nothing_phrase)
    (name_lead (codes "min") (λ _. Own (OfNumbers totals.Min)) (λ _. refl) (λ _ _. refl) (at_end nothing_phrase)
    (name_lead (codes "count") (λ _. Whole Count) (λ _. refl) (λ _ _. refl) (at_end nothing_phrase)
    (name_lead (codes "findfirst") (λ _. Whole FindFirst) (λ _. refl) (λ _ _. refl) (at_end nothing_phrase)
    (name_lead (codes "tolist") (λ _. Whole ToList) (λ _. refl) (λ _ _. refl) (at_end nothing_phrase)
    (name_lead (codes "allmatch") (λ p. Match AllMatch p) (λ _. refl) (λ _ _. refl) (at_end condition_phrase)
    (name_lead (codes "anymatch") (λ p. Match AnyMatch p) (λ _. refl) (λ _ _. refl) (at_end condition_phrase)
    (name_lead (codes "nonematch") (λ p. Match NoneMatch p) (λ _. refl) (λ _ _. refl) (at_end condition_phrase)
    (name_lead (codes "joining") (λ j. Own (OfTexts j)) (λ _. refl) (λ _ _. refl) joint_phrase
    (name_lead (codes "groupby") (λ p. GroupBy p.0 p.1) (λ _. refl) (λ _ k. k) (at_end (both_phrase function_phrase (summary_phrase version)))
    (name_lead (codes "partition") (λ p. Partition p.0 p.1) (λ _. refl) (λ _ k. k) (at_end (both_phrase condition_phrase (summary_phrase version)))
    (name_lead (codes "tomap") (λ p. ToMap p.0 p.1) (λ _. refl) (λ _ _. refl) (at_end (both_phrase function_phrase (both_phrase function_phrase merge_phrase)))
    (name_lead (codes "teeing") (λ p. Teeing p.0 p.1) (λ _. refl) (λ _ k. k) (at_end (both_phrase (summary_phrase version) (summary_phrase version)))
    (new_terminal_leads version)))))))))))))))

-- a line of the body
abbrev body_leads : (version : Version) → Leads AtEnd (body_known version) body_slots (body_names version)
unfolding terminal_names collecting_names
body_leads version = name_lead (codes "map") (λ f. body_lines.Stage (Map f)) (λ _. refl) (λ _ _. refl) (at_end function_phrase)
    (name_lead (codes "filter") (λ p. body_lines.Stage (Filter p)) (λ _. refl) (λ _ _. refl) (at_end condition_phrase)
    (name_lead (codes "flatmap") (λ e. body_lines.Stage (FlatMap e)) (λ _. refl) (λ _ _. refl) (at_end expansion_phrase)
    (name_lead (codes "distinct") (λ _. body_lines.Stage (Barrier Distinct)) (λ _. refl) (λ _ _. refl) (at_end nothing_phrase)
    (name_lead (codes "limit") (λ n. body_lines.Stage (Barrier (Counted Front n))) (λ _. refl) (λ _ _. refl) (at_end natural_here)
    (name_lead (codes "skip") (λ n. body_lines.Stage (Barrier (Counted Rest n))) (λ _. refl) (λ _ _. refl) (at_end natural_here)
    (name_lead (codes "takewhile") (λ p. body_lines.Stage (Barrier (While Front p))) (λ _. refl) (λ _ _. refl) (at_end condition_phrase)
    (name_lead (codes "dropwhile") (λ p. body_lines.Stage (Barrier (While Rest p))) (λ _. refl) (λ _ _. refl) (at_end condition_phrase)
    (made_of_leads body_lines.Terminal (λ _. refl) (λ _ k. k) (terminal_leads version)))))))))

strict_knows : (version : Version) (key value : Function) → has_new_names version ≡ true → Knows AtEnd (by_name (body_names version)) (body_slots (body_lines.Terminal (ToMapStrict key value))) (body_lines.Terminal (ToMapStrict key value))
unfolding terminal_names collecting_names new_terminal_names
strict_knows One key value known = absurd (false≢true known)
strict_knows Two key value known = named_knows (body_leads Two) (_, refl, refl, refl)

body_knows : (version : Version) (x : BodyLine) → body_known version x ≡ true → Knows AtEnd (by_name (body_names version)) (body_slots x) x
unfolding terminal_names collecting_names
body_knows version (body_lines.Stage (Barrier (Counted Front n))) known = named_knows (body_leads version) (_, refl, refl, refl)
body_knows version (body_lines.Stage (Barrier (While Front p))) known = named_knows (body_leads version) (_, refl, refl, refl)
body_knows version (body_lines.Terminal (Whole Count)) known = named_knows (body_leads version) (_, refl, refl, refl)
body_knows version (body_lines.Terminal (Match AllMatch p)) known = named_knows (body_leads version) (_, refl, refl, refl)
body_knows version (body_lines.Terminal (Own (OfNumbers totals.Sum))) known = named_knows (body_leads version) (_, refl, refl, refl)
body_knows version (body_lines.Terminal (ToMap key (value, merge))) known = named_knows (body_leads version) (_, refl, refl, refl)
body_knows version (body_lines.Terminal (ToMapStrict key value)) known = strict_knows version key value known
body_knows version x known = named_knows (body_leads version) (_, refl, refl, known)

pub body_phrase : (version : Version) → Phrase AtEnd (body_known version) body_slots (body_of version)
unfolding body_of
body_phrase version = by_name_phrase (body_leads version) (body_lines.Terminal (Whole Count)) refl (body_knows version)

-- a source
abbrev origin_leads : Leads AtEnd all_known origin_slots origin_names
origin_leads = name_lead (codes "range") (λ p. Range p.0 p.1) (λ _. refl) (λ _ _. refl) (at_end (both_phrase number_here number_here))
    (name_lead (codes "closed") (λ p. Closed p.0 p.1) (λ _. refl) (λ _ _. refl) (at_end (both_phrase number_here number_here))
    (name_lead (codes "numbers") Numbers (λ _. refl) (λ _ _. refl) all_numbers_phrase
    (name_lead (codes "lines") Lines (λ _. refl) (λ _ _. refl) (at_end (natural_phrase (pos 1000000) (le_z_yes tt)))
    no_leads)))

origin_knows : (x : Origin) → Knows AtEnd (by_name origin_names) (origin_slots x) x
origin_knows (Numbers ns) = named_knows origin_leads (_, refl, refl, refl)
origin_knows x = named_knows origin_leads (_, refl, refl, refl)

pub origin_phrase : Phrase AtEnd all_known origin_slots origin_words
unfolding origin_words
origin_phrase = by_name_phrase origin_leads (Numbers []) refl (λ x _. origin_knows x)
