-- What values and containers are written as.
use Rattle.std.specs.Prelude.{◌≡◌, ℕ, ℤ, List, Option, Some, None, map}
use Rattle.serde_json.specs.Data.{Data, null, number, string, array, no_items, item}
use Rattle.serde_json.specs.Find.{of_integer}
use Rattle.serde_json.specs.View.{items_of}
use Rattle.collectors.specs.Laws.{IsContainerOf}
use Rattle.derived_collectors.specs.Facts.{Facts}

-- a list: an array of the forms of its members
abbrev pub list_form : {X : Type 0} → (X → Data) → List X → Data
list_form form l = array (items_of (map form l))

-- a pair: an array of two
abbrev pub pair_form : Data → Data → Data
pair_form a b = array (item a (item b no_items))

-- nothing, or a value: null, or an array of one
abbrev pub option_form : {X : Type 0} → (X → Data) → Option X → Data
option_form form None = null
option_form form (Some x) = array (item (form x) no_items)

-- a text, or none: null, or a text
abbrev pub text_form : Option (List ℕ) → Data
text_form None = null
text_form (Some t) = string t

-- a number
abbrev pub number_form : ℤ → Data
number_form n = number (of_integer n)

-- count and sum, and the least and the greatest number, where there is one
abbrev pub facts_form : Facts → Data
facts_form f = pair_form (pair_form (number_form f.0.0) (number_form f.0.1)) (pair_form (option_form number_form f.1.0) (option_form number_form f.1.1))

-- an entry of a map: its key and what is kept for it
abbrev pub entry_form : {K A : Type 0} → (K → Data) → (A → Data) → K × A → Data
entry_form of_keys of_kept e = pair_form (of_keys e.0) (of_kept e.1)

-- the value is the form of a container of the list
abbrev pub IsFormOf : {X A C : Type 0} → (X → Type 0) → (C → A) → A → (A → X → A) → (C → Data) → List X → Data → Type 0
IsFormOf {X} {A} {C} is_value content empty add form l d = (acc : C) × IsContainerOf is_value content empty add l acc × (form acc ≡ d)
