-- What holds between any two steps of any seats: of the words, and of what the seats know.
use Rattle.std.specs.Prelude.{◌≡◌, ◌≢◌, ℕ, zero, suc, ◌+◌, ◌*◌, ◌<◌, ◌≤◌, List, [], ◌∷◌, length, slice_index, Contains, if◌then◌else◌, nat_lt}
use mathlib.Core.Option.{some}
use lib.ListN.{get_elem?}
use Rattle.atomic_table.specs.Table.{State}
use Rattle.leaf_board.specs.Case.{BoardCase, sum_below, IsJustified, IsLawful, share_start, share_end, distance}
use Rattle.leaf_board.specs.Statuses.{Status, Unknown, Published, Skipped}
use Rattle.leaf_board.specs.Knowledge.{Knowledge, blank, status_of, WasGiven, Entry, entry}
use Rattle.leaf_board.specs.declared.view.View.{View}

-- Word 0 is the cut. Each share has a ticket, 8 words after what comes before it, so that no two lie on one cache line; the words between
-- stay 0. Then each leaf has a word: 0, or 1 + its count
abbrev pub ticket_place : ℕ → ℕ
ticket_place share = 8 * (1 + share)

abbrev pub leaf_place : BoardCase → ℕ → ℕ
leaf_place c leaf = 8 * (1 + c.seats) + leaf

abbrev pub word_count : BoardCase → ℕ
word_count c = 8 * (1 + c.seats) + c.leaves

abbrev pub cut_word : List ℕ → ℕ
cut_word words = slice_index words 0

abbrev pub ticket_word : List ℕ → ℕ → ℕ
ticket_word words share = slice_index words (ticket_place share)

abbrev pub leaf_word : BoardCase → List ℕ → ℕ → ℕ
leaf_word c words leaf = slice_index words (leaf_place c leaf)

-- a leaf's state among some seat's knowledge
abbrev pub IsPublished : Knowledge → ℕ → ℕ → Type 0
IsPublished k leaf count = status_of k leaf ≡ Published count

abbrev pub IsSkipped : Knowledge → ℕ → Type 0
IsSkipped k leaf = status_of k leaf ≡ Skipped

abbrev pub FoundEmpty : BoardCase → ℕ → Knowledge → ℕ → Type 0
FoundEmpty c number k share = distance c number share < k.passed

-- how many numbers found the share empty
abbrev pub emptied_by : BoardCase → ℕ → ℕ → Knowledge → ℕ
emptied_by c share number k = if nat_lt (distance c number share) k.passed then 1 else 0

abbrev pub found_empty : BoardCase → (ℕ → Knowledge) → ℕ → ℕ
found_empty c know share = sum_below (λ a. emptied_by c share a (know a)) c.seats

-- how many leaves were given
abbrev pub is_given : Status → ℕ
is_given Unknown = 0
is_given _ = 1

abbrev pub given_count : List Status → ℕ
given_count [] = 0
given_count (s ∷ ss) = is_given s + given_count ss

-- what holds of one number and its knowledge beside the words
pub record Fits (c : BoardCase) (words : List ℕ) (number : ℕ) (k : Knowledge) : Type 0 where
  pub all_leaves : length k.leaves ≡ c.leaves
  pub all_counts : length k.counts ≡ c.leaves
  pub few_passed : k.passed ≤ c.seats
  pub drew : k.draws ≡ given_count k.leaves + k.passed
  -- what it was given is below the tickets
  pub drawn : (share leaf : ℕ) → share < c.seats → share_start c share ≤ leaf → leaf < share_end c share → WasGiven k leaf → leaf < ticket_word words share
  pub emptied : (share : ℕ) → share < c.seats → FoundEmpty c number k share → share_end c share ≤ ticket_word words share
  pub written : (leaf count : ℕ) → IsPublished k leaf count → (leaf_word c words leaf ≡ suc count) × IsLawful c.need (c.full leaf) count
  pub known : (leaf : ℕ) → slice_index k.counts leaf ≢ 0 → leaf_word c words leaf ≡ slice_index k.counts leaf
  pub no_later_cut : k.least ≤ c.leaves
  pub least_known : cut_word words ≤ k.least
  pub own_cuts : (cut : ℕ) → Contains k.cuts cut → (k.least ≤ cut) × (cut < c.leaves)
  pub right_of_cut : (leaf : ℕ) → IsSkipped k leaf → k.least < leaf

-- The words and what the numbers know, as one board
pub record Sound (c : BoardCase) (words : List ℕ) (know : ℕ → Knowledge) : Type 0 where
  pub sized : length words ≡ word_count c
  pub fits : (a : ℕ) → a < c.seats → Fits c words a (know a)
  -- no leaf is given to two
  pub once : (a b leaf : ℕ) → a < c.seats → b < c.seats → WasGiven (know a) leaf → WasGiven (know b) leaf → a ≡ b
  -- a share's leaves below its ticket are given
  pub opened : (share : ℕ) → share < c.seats → share_start c share ≤ ticket_word words share
  pub given : (share leaf : ℕ) → share < c.seats → share_start c share ≤ leaf → leaf < share_end c share → leaf < ticket_word words share → (a : ℕ) × (a < c.seats) × WasGiven (know a) leaf
  pub not_far : (share : ℕ) → share < c.seats → ticket_word words share ≤ share_end c share + found_empty c know share
  -- a word that isn't 0 was published by one of them
  pub by_one : (leaf : ℕ) → leaf < c.leaves → leaf_word c words leaf ≢ 0 → (a : ℕ) × (a < c.seats) × (count : ℕ) × IsPublished (know a) leaf count
  -- the cut word is the number of leaves, or a cut that was made and is justified
  pub cut_made : cut_word words < c.leaves → (a : ℕ) × (a < c.seats) × Contains (know a).cuts (cut_word words)
  pub cut_within : cut_word words ≤ c.leaves
  pub cut_justified : cut_word words < c.leaves → IsJustified c (cut_word words)

-- Each number's knowledge stands in the one view that holds the number
abbrev pub Holds : BoardCase → (ℕ → Knowledge) → (ℕ → ℕ) → ℕ → List Entry → Type 0
Holds c know holder at entries = (j : ℕ) (e : Entry) → get_elem? entries j ≡ some e → (e.number < c.seats) × (holder e.number ≡ at) × (know e.number ≡ e.knows)

abbrev pub Housed : BoardCase → (ℕ → Knowledge) → (ℕ → ℕ) → List View → Type 0
Housed c know holder views = (at : ℕ) (v : View) → get_elem? views at ≡ some v → Holds c know holder at v.entries

-- no number stands twice in a view
abbrev pub NoneTwice : List Entry → Type 0
NoneTwice entries = (i j : ℕ) (e f : Entry) → get_elem? entries i ≡ some e → get_elem? entries j ≡ some f → e.number ≡ f.number → i ≡ j

abbrev pub AreApart : List View → Type 0
AreApart views = (at : ℕ) (v : View) → get_elem? views at ≡ some v → NoneTwice v.entries

-- The rule of the table
pub record Orderly (c : BoardCase) (s : State Unit View) : Type 0 where
  pub know : ℕ → Knowledge
  pub holder : ℕ → ℕ
  pub housed : Housed c know holder s.views
  pub apart : AreApart s.views
  pub sound : Sound c s.words know

abbrev pub view : List Entry → View
view entries = record { entries = entries }

-- the view of a seat in use
abbrev pub single : ℕ → Knowledge → View
single number k = view (entry number k ∷ [])

-- blank knowledge for `count` numbers, from this one on
abbrev pub blanks : BoardCase → ℕ → ℕ → List Entry
blanks c number zero = []
blanks c number (suc count) = entry number (blank c) ∷ blanks c (suc number) count

abbrev pub nothing : View
nothing = view []

-- the words at the start
pub record IsOpening (c : BoardCase) (words : List ℕ) : Type 0 where
  pub sized : length words ≡ word_count c
  pub uncut : cut_word words ≡ c.leaves
  pub tickets : (share : ℕ) → share < c.seats → ticket_word words share ≡ share_start c share
  pub leaves : (leaf : ℕ) → leaf < c.leaves → leaf_word c words leaf ≡ 0
