-- How much a chain reads of the source before it.
use Rattle.std.specs.Prelude.{◌≡◌, ◌⊎◌, ℕ, zero, suc, Bool, List, [], ◌∷◌, ◌++◌, Option, Some, None, flat_map, map}
use Rattle.barriers.specs.Needs.{IsEnough}
use Rattle.parallel_streams.specs.Reading.{StandsBehind}
use Rattle.parallel_streams.specs.declared.kept.Listed.{Listed}
use Rattle.chained_streams.specs.declared.chain.Link.{Link}

-- a link's state stands behind what its stage makes of these items
abbrev pub StandsLink : {A B S C : Type 0} → (A → C → List C) → (B → Option ℕ) → (B → C → Bool) → (B → List C → List C) → (B → S → Option ℕ) → (B → S → List C → List C) → Link A B → S → List C → Type 0
StandsLink expand needed counted value needed_behind value_behind link state items =
    StandsBehind (needed link.barrier) (counted link.barrier) (value link.barrier) (needed_behind link.barrier state) (value_behind link.barrier state) (flat_map (expand link.stage) items)

-- what its stage makes of them is enough for its barrier
abbrev pub EnoughLink : {A B C : Type 0} → (A → C → List C) → (B → Option ℕ) → (B → C → Bool) → Link A B → List C → Type 0
EnoughLink expand needed counted link items = IsEnough (needed link.barrier) (counted link.barrier) (flat_map (expand link.stage) items)

-- its state lets all pass, and needs no number
abbrev pub LetsPass : {A B S C : Type 0} → (B → S → Option ℕ) → (B → S → List C → List C) → Link A B → S → Type 0
LetsPass needed_behind value_behind link state = (needed_behind link.barrier state ≡ None) × ((items : List _) → value_behind link.barrier state items ≡ items)

-- each link's state stands behind what the links before it make of these items
abbrev pub StandLinks : {L S C : Type 0} → (L → S → List C → Type 0) → (L → List C → List C) → List L → List S → List C → Type 0
StandLinks stands value [] [] items = Unit {0}
StandLinks stands value (link ∷ links) (state ∷ states) items = stands link state items × StandLinks stands value links states (value link items)
StandLinks stands value _ _ items = ⊥

-- some link has enough
abbrev pub SomeEnough : {L C : Type 0} → (L → List C → Type 0) → (L → List C → List C) → List L → List C → Type 0
SomeEnough enough value [] items = ⊥
SomeEnough enough value (link ∷ links) items = enough link items ⊎ SomeEnough enough value links (value link items)

-- the first `run` links' states stand behind all that came with the present segment, the others' behind what came before; `kept` is what came more to these
abbrev pub LinksRun : {L S C : Type 0} → (L → S → List C → Type 0) → (L → List C → List C) → ℕ → List L → List S → List C → List C → List C → Type 0
LinksRun stands value zero links states before now kept = StandLinks stands value links states before × (now ≡ before ++ kept)
LinksRun stands value (suc run) (link ∷ links) (state ∷ states) before now kept = stands link state now × LinksRun stands value run links states (value link before) (value link now) kept
LinksRun stands value (suc run) _ _ before now kept = ⊥

-- a first link that doesn't run lets all pass
abbrev pub FirstLets : {L S : Type 0} → (L → S → Type 0) → List L → List S → ℕ → Type 0
FirstLets lets links states zero = Unit {0}
FirstLets lets (link ∷ links) (state ∷ states) (suc run) = lets link state
FirstLets lets _ _ (suc run) = ⊥

-- the stream before has come to the present segment, or its barriers have run, and how far the links' states have come
abbrev pub ReadsChain : {L S T C : Type 0} → Type 0 → Type 0 → (L → S → List C → Type 0) → (L → S → Type 0) → (L → List C → List C) → (T → C) → List L → List S → ℕ → List C → List C → Option (Listed T) → Type 0
ReadsChain reads read stands lets value content links states run before now None = reads × StandLinks stands value links states before × FirstLets lets links states run
ReadsChain reads read stands lets value content links states run before now (Some listed) = read × LinksRun stands value run links states before now (map content listed.items.items)

-- none of the first n links is over
abbrev pub AreOpen : {L S : Type 0} → (L → S → Option ℕ) → ℕ → List L → List S → Type 0
AreOpen needed zero links states = Unit {0}
AreOpen needed (suc n) (link ∷ links) (state ∷ states) = (needed link state ≡ Some 0 → ⊥) × AreOpen needed n links states
AreOpen needed (suc n) _ _ = Unit {0}
