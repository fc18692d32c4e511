-- What is kept of the items of each key.
use Rattle.std.specs.Prelude.{ℕ, pos, Bool, true, false, List, length}
use Rattle.std.specs.Fmt.{signed_decimal}
use Rattle.stages.specs.Wrapping.{wrapped}
use Rattle.pipeline_value.specs.declared.arranged.Group.{Group}
use Rattle.pipeline_value.specs.declared.arranged.Group.TheVariants.{Count, Base, Summary}
use Rattle.pipeline_language.specs.declared.grammar.Terminal.{Terminal}
use Rattle.pipeline_language.specs.declared.grammar.Terminal.TheVariants.{GroupBy, Partition, Teeing}

-- the terminal puts items under keys, parts them, or collects them twice
abbrev pub arranges : {F P S V O : Type 0} → Terminal F P S V O → Bool
arranges (GroupBy key summary) = true
arranges (Partition test summary) = true
arranges (Teeing one other) = true
arranges terminal = false

module _ {B D : Type 0} where
  -- the text of what is kept of items, by the texts of its collectors' results
  abbrev pub group_text : {X : Type 0} → (B → List X → List ℕ) → (D → List X → List ℕ) → Group B D → List X → List ℕ
  group_text base summary Count l = signed_decimal (wrapped (pos (length l)))
  group_text base summary (Base b) l = base b l
  group_text base summary (Summary d) l = summary d l

  -- its collector may be called
  abbrev pub IsReady : (B → Type 0) → (D → Type 0) → Group B D → Type 0
  IsReady bases summaries Count = Unit {0}
  IsReady bases summaries (Base b) = bases b
  IsReady bases summaries (Summary d) = summaries d
