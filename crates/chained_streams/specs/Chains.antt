-- What links make of a list: each is stages that look at one item at a time, and the barrier behind them.
use Rattle.std.specs.Prelude.{◌≡◌, ◌≤◌, ◌+◌, ◌-◌, ℕ, zero, suc, Bool, true, List, [], ◌∷◌, ◌++◌, Option, Some, None, drop, flat_map, length, map}
use Rattle.std.specs.List.{AllZip}
use Rattle.barriers.specs.Needs.{no_item}
use Rattle.parallel_streams.specs.Cuts.{cut_at}
use Rattle.parallel_streams.specs.Ends.{ends_of}
use Rattle.stealing_pool.specs.Jobs.{Work}
use Rattle.parallel_streams.specs.Progress.{HoldsListed, own_work}
use Rattle.parallel_streams.specs.declared.kept.Listed.{Listed}
use Rattle.chained_streams.specs.declared.chain.Link.{Link}

-- what a link makes of a list: its barrier's value of what its stage makes of it
abbrev pub link_value : {A B C : Type 0} → (A → C → List C) → (B → List C → List C) → Link A B → List C → List C
link_value expand value link items = value link.barrier (flat_map (expand link.stage) items)

-- .. and in a state of its barrier, of what is still to come
abbrev pub link_behind : {A B S C : Type 0} → (A → C → List C) → (B → S → List C → List C) → Link A B → S → List C → List C
link_behind expand behind link state items = behind link.barrier state (flat_map (expand link.stage) items)

-- what links make of a list, one after another
abbrev pub through_links : {L C : Type 0} → (L → List C → List C) → List L → List C → List C
through_links value [] items = items
through_links value (link ∷ links) items = through_links value links (value link items)

-- what is told of items, behind links that change it one after another
abbrev pub told_through : {L T : Type 0} → (L → T → T) → List L → T → T
told_through after [] told = told
told_through after (link ∷ links) told = told_through after links (after link told)

-- what links in their states make of what is still to come
abbrev pub behind_links : {L S C : Type 0} → (L → S → List C → List C) → List L → List S → List C → List C
behind_links step [] states items = items
behind_links step (link ∷ links) [] items = items
behind_links step (link ∷ links) (state ∷ states) items = behind_links step links states (step link state items)

-- .. and of `kept`, which the first `run` links left of the present segment, and of what is behind it
abbrev pub left_by : {L S C : Type 0} → (L → S → List C → List C) → ℕ → List L → List S → List C → List C → List C
left_by step zero links states kept behind = behind_links step links states (kept ++ behind)
left_by step (suc run) [] states kept behind = kept ++ behind
left_by step (suc run) (link ∷ links) [] kept behind = kept ++ behind
left_by step (suc run) (link ∷ links) (state ∷ states) kept behind = left_by step run links states kept (step link state behind)

-- before a link has run there is no list, and all that comes to the first one is left
abbrev pub left_of_chain : {L S T C : Type 0} → (L → S → List C → List C) → (T → C) → ℕ → List L → List S → List C → List C → Option (Listed T) → List C
left_of_chain step content run links states left behind None = behind_links step links states left
left_of_chain step content run links states left behind (Some listed) = left_by step run links states (map content listed.items.items) behind

-- states before any item
abbrev pub AreFresh : {L S C : Type 0} → (L → S → List C → List C) → (L → List C → List C) → List L → List S → Type 0
AreFresh step value = AllZip (λ link state. (items : List _) → step link state items ≡ value link items)

-- the segment is the whole: the links that have not run make the value of what those before left
abbrev pub IsPlannedChain : {L S T C : Type 0} → (L → S → List C → List C) → (L → List C → List C) → (T → C) → List C → List L → ℕ → List S → Option (Listed T) → Type 0
IsPlannedChain step value content whole links run states None = AreFresh step value links states × (run ≡ 0)
IsPlannedChain step value content whole links run states (Some listed) =
    AreFresh step value (drop run links) (drop run states) × (through_links value (drop run links) (map content listed.items.items) ≡ through_links value links whole)

-- the first link lets all that comes pass through its stage
abbrev pub FirstPasses : {L S C : Type 0} → (L → S → List C → List C) → (L → C → List C) → List L → List S → Type 0
FirstPasses step images (link ∷ links) (state ∷ states) = (items : List _) → step link state items ≡ flat_map (images link) items
FirstPasses step images _ _ = ⊥

-- a segment begins with no link run, or with the first alone, which lets all pass
abbrev pub IsFirstRun : {L S C : Type 0} → (L → S → List C → List C) → (L → C → List C) → List L → List S → ℕ → Type 0
IsFirstRun step images links states zero = Unit {0}
IsFirstRun step images links states (suc zero) = FirstPasses step images links states
IsFirstRun step images links states (suc (suc run)) = ⊥

abbrev pub IsAtStart : {L S T C : Type 0} → (L → S → List C → List C) → (L → C → List C) → List L → List S → ℕ → Option (Listed T) → Type 0
IsAtStart step images links states run None = IsFirstRun step images links states run
IsAtStart step images links states run (Some listed) = Unit {0}

-- each link has its state, and the present list is cut into leaves
abbrev pub HoldsChain : {L S T C : Type 0} → (L → S → List C → List C) → (L → C → List C) → List L → List S → ℕ → Option (Listed T) → Type 0
HoldsChain step images links states run listed = (length states ≡ length links) × (run ≤ length links) × HoldsListed listed × IsAtStart step images links states run listed

-- the barriers of the stream before have run
abbrev pub is_own_turn : {T : Type 0} → Bool → Option (Listed T) → Bool
is_own_turn done None = done
is_own_turn done (Some listed) = true

-- the lists of the leaves of the stream before, through the stage of the first link where that let all pass
abbrev pub first_lists : {L C : Type 0} → (L → C → List C) → List L → ℕ → List (List C) → List (List C)
first_lists images [] run before = before
first_lists images (link ∷ links) zero before = before
first_lists images (link ∷ links) (suc run) before = map (flat_map (images link)) before

-- the lists of the leaves of the next run
abbrev pub lists_of : {L T C : Type 0} → (L → C → List C) → (T → C) → List L → ℕ → List (List C) → Option (Listed T) → List (List C)
lists_of images content links run before None = first_lists images links run before
lists_of images content links run before (Some listed) = cut_at 0 (ends_of listed.places) (map content listed.items.items)

-- the number of links that have not run, and of barriers before
abbrev pub links_waiting : {T : Type 0} → ℕ → ℕ → ℕ → Option (Listed T) → ℕ
links_waiting before links run None = before + links
links_waiting before links run (Some listed) = links - run

-- what the next link's run needs, what counts there, and what its stages make of an item; once all have run, nothing is asked and nothing listed
abbrev pub needed_at : {L S : Type 0} → (L → S → Option ℕ) → Option L → Option S → Option ℕ
needed_at needed (Some link) (Some state) = needed link state
needed_at needed _ _ = None

abbrev pub counted_at : {L S C : Type 0} → (L → C → Bool) → Option L → Option S → C → Bool
counted_at counted (Some link) (Some state) = counted link
counted_at counted _ _ = no_item

abbrev pub no_images : {C : Type 0} → C → List C
no_images x = []

abbrev pub images_at : {L S C : Type 0} → (L → C → List C) → Option L → Option S → C → List C
images_at images (Some link) (Some state) = images link
images_at images _ _ = no_images

abbrev pub behind_at : {L S C : Type 0} → (L → S → List C → List C) → Option L → Option S → List C → List C
behind_at behind (Some link) (Some state) items = behind link state items
behind_at behind _ _ items = []

-- what there is to do in its run: to list what its stages make of the present lists, as far as its barrier needs it
abbrev pub link_work : {L S T C : Type 0} → (L → S → Option ℕ) → (L → C → Bool) → (L → S → List C → List C) → (L → C → List C) → (C → Type 0) → (T → C) → Option L → Option S → List (List C) → Work (List T)
link_work needed counted behind images is_value content link state lists =
    own_work (needed_at needed link state) (counted_at counted link state) is_value content (behind_at behind link state) (map (flat_map (images_at images link state)) lists)
