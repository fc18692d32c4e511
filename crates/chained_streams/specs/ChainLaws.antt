-- What holds of chains of links.
use Rattle.std.specs.Prelude.{◌≡◌, ◌<◌, ◌≤◌, ◌==◌, ◌&&◌, ℕ, zero, suc, Bool, true, false, List, [], ◌∷◌, ◌++◌, Option, Some, None, drop, flat_map, length, map, slice_get, slice_index_or, slice_set, refl}
use Rattle.std.proofs.Common.{sym, ap, ◌∙◌, subst, arith, true≢false, append-nil}
use Rattle.std.specs.declared.cmp.Ordering.{Ordering}
use Rattle.std.proofs.lemmas.List.{length-map}
use Rattle.spliterator.specs.Scalars.{nat_eq-decides}
use Rattle.stages.specs.Flags.{IsSound, KeepsSound, after}
use Rattle.stages.specs.declared.{flags.Operation.Operation, flags.StreamFlags.StreamFlags}
use Rattle.stealing_pool.specs.Jobs.{Work}
use Rattle.stealing_pool.specs.Spans.{joined}
use Rattle.parallel_streams.specs.Cuts.{cut_at, cut_at-map, length-cut_at}
use Rattle.parallel_streams.specs.Ends.{ends_of}
use Rattle.parallel_streams.specs.Progress.{HoldsListed, barred_work, next_leaves}
use Rattle.parallel_streams.specs.LeafLaws.{get-mapped, left-through, map-both}
use Rattle.parallel_streams.specs.ProgressLaws.{joined-listed}
use Rattle.parallel_streams.specs.declared.kept.Listed.{Listed}
use Rattle.chained_streams.specs.Chains.{AreFresh, HoldsChain, IsFirstRun, IsPlannedChain, behind_links, first_lists, is_own_turn, left_by, left_of_chain, link_value, lists_of, no_images, through_links, told_through}
use Rattle.chained_streams.specs.declared.chain.Link.{Link}

-- What is told of a stream's items tells what is behind links, a link's stage and its barrier one after the other.
module _ {A B C : Type 0} (order : C → C → Ordering) (expand : A → C → List C) (value : B → List C → List C) (row : A → Operation) (size : A → Option ℕ → Option ℕ) (barrier_row : B → Operation) (barrier_size : B → Option ℕ → Option ℕ)
    (stage_law : (a : A) → KeepsSound order order (row a) (size a) (flat_map (expand a))) (barrier_law : (b : B) → KeepsSound order order (barrier_row b) (barrier_size b) (value b)) where
  pub KeepsSound-links : (links : List (Link A B)) (flags : StreamFlags) (known : Option ℕ) (items : List C) → IsSound order flags known items
      → IsSound order (told_through (λ link flags. after (after flags (row link.stage)) (barrier_row link.barrier)) links flags)
      (told_through (λ link known. barrier_size link.barrier (size link.stage known)) links known) (through_links (link_value expand value) links items)
  KeepsSound-links [] flags known items sound = sound
  KeepsSound-links (link ∷ links) flags known items sound =
      KeepsSound-links links _ _ _ (barrier_law link.barrier _ _ _ (stage_law link.stage flags known items sound))

pub both-true : (a b : Bool) → (a && b) ≡ true → (a ≡ true) × (b ≡ true)
both-true true b is = (refl, is)
both-true false b is = absurd (true≢false (sym is))

-- all links have run
pub all-run : (turn : Bool) (run links : ℕ) → (turn && (run == links)) ≡ true → run ≡ links
all-run turn run links is = (nat_eq-decides run links).0 (both-true turn (run == links) is).1

module _ {L C : Type 0} (images : L → C → List C) (parts : List (List C)) where
  first-count : (links : List L) (run : ℕ) → length (first_lists images links run parts) ≡ length parts
  first-count [] run = refl
  first-count (link ∷ links) zero = refl
  first-count (link ∷ links) (suc run) = length-map parts (flat_map (images link))

  pub first-none : (links : List L) (run : ℕ) → run ≡ 0 → first_lists images links run parts ≡ parts
  first-none [] run is = refl
  first-none (link ∷ links) zero is = refl
  first-none (link ∷ links) (suc run) is = absurd (omega (arith, is))

  -- behind the stage of the first link
  pub first-some : (links : List L) (run : ℕ) (link : L) → 0 < run → run ≤ length links → link ≡ slice_index_or links 0 link → first_lists images links run parts ≡ map (flat_map (images link)) parts
  first-some [] run link later within is = absurd (omega (arith, later, within))
  first-some (l ∷ links) zero link later within is = absurd (omega (arith, later))
  first-some (l ∷ links) (suc run) link later within is = ap (λ x. map (flat_map (images x)) parts) (sym is)

-- the next run has the leaves that are told
module _ {L T C : Type 0} (images : L → C → List C) (content : T → C) (links : List L) (run : ℕ) where
  pub chain-leaves : {P : Type 0} (done : Bool) (before : Work P) (own : Work (List T)) (parts : List (List C)) (n : ℕ) (listed : Option (Listed T))
      → own.leaves ≡ length (lists_of images content links run parts listed) → (done ≡ false → before.leaves ≡ n) → (done ≡ true → length parts ≡ n)
      → (barred_work (is_own_turn done listed) before own).leaves ≡ next_leaves n listed
  chain-leaves true before own parts n None counts of_before of_own = counts ∙ first-count images parts links run ∙ of_own refl
  chain-leaves false before own parts n None counts of_before of_own = of_before refl
  chain-leaves done before own parts n (Some l) counts of_before of_own = counts ∙ length-cut_at 0 (ends_of l.places) (map content l.items.items)

  pub count-lists : (done : Bool) (parts : List (List C)) (n : ℕ) (listed : Option (Listed T)) → (is_own_turn done listed && (run == length links)) ≡ true
      → (done ≡ true → length parts ≡ n) → length (lists_of images content links run parts listed) ≡ next_leaves n listed
  count-lists done parts n listed is of_own = count listed (both-true (is_own_turn done listed) (run == length links) is).0
    where
      count : (l : Option (Listed T)) → is_own_turn done l ≡ true → length (lists_of images content links run parts l) ≡ next_leaves n l
      count None turn = first-count images parts links run ∙ of_own turn
      count (Some l) turn = length-cut_at 0 (ends_of l.places) (map content l.items.items)

module _ {L S C : Type 0} (step : L → S → List C → List C) where
  -- fresh links in their states make their value
  pub through-fresh : (value : L → List C → List C) (links : List L) (states : List S) (items : List C) → AreFresh step value links states
      → behind_links step links states items ≡ through_links value links items
  through-fresh value [] [] items fresh = refl
  through-fresh value [] (s ∷ ss) items fresh = absurd fresh
  through-fresh value (l ∷ ls) [] items fresh = absurd fresh
  through-fresh value (l ∷ ls) (s ∷ ss) items fresh = through-fresh value ls ss (step l s items) fresh.1 ∙ ap (through_links value ls) (fresh.0 items)

  pub fresh-length : (value : L → List C → List C) (links : List L) (states : List S) → AreFresh step value links states → length states ≡ length links
  fresh-length value [] [] fresh = refl
  fresh-length value [] (s ∷ ss) fresh = absurd fresh
  fresh-length value (l ∷ ls) [] fresh = absurd fresh
  fresh-length value (l ∷ ls) (s ∷ ss) fresh = ap suc (fresh-length value ls ss fresh.1)

  pub fresh-push : (value : L → List C → List C) (links : List L) (states : List S) (link : L) (state : S) → AreFresh step value links states
      → ((items : List C) → step link state items ≡ value link items) → AreFresh step value (links ++ link ∷ []) (states ++ state ∷ [])
  fresh-push value [] [] link state fresh same = (same, tt)
  fresh-push value [] (s ∷ ss) link state fresh same = absurd fresh
  fresh-push value (l ∷ ls) [] link state fresh same = absurd fresh
  fresh-push value (l ∷ ls) (s ∷ ss) link state fresh same = (fresh.0, fresh-push value ls ss link state fresh.1 same)

  -- of nothing, nothing is left
  pub behind-nothing : ((l : L) (s : S) → step l s [] ≡ []) → (links : List L) (states : List S) → behind_links step links states [] ≡ []
  behind-nothing nothing [] states = refl
  behind-nothing nothing (l ∷ ls) [] = refl
  behind-nothing nothing (l ∷ ls) (s ∷ ss) = ap (behind_links step ls ss) (nothing l s) ∙ behind-nothing nothing ls ss

  -- and so where one link is over
  pub over-links : ((l : L) (s : S) → step l s [] ≡ []) → (at : ℕ) (links : List L) (states : List S) (link : L) (state : S) (items : List C) → at < length links → at < length states
      → link ≡ slice_index_or links at link → state ≡ slice_index_or states at state → ((more : List C) → step link state more ≡ []) → behind_links step links states items ≡ []
  over-links nothing at [] states link state items in_links in_states is_link is_state over = absurd (omega (arith, in_links))
  over-links nothing at (l ∷ ls) [] link state items in_links in_states is_link is_state over = absurd (omega (arith, in_states))
  over-links nothing zero (l ∷ ls) (s ∷ ss) link state items in_links in_states is_link is_state over =
      let now : step l s items ≡ [] = sym (ap (λ x. step x state items) is_link ∙ ap (λ x. step l x items) is_state) ∙ over items in
      ap (behind_links step ls ss) now ∙ behind-nothing nothing ls ss
  over-links nothing (suc at) (l ∷ ls) (s ∷ ss) link state items in_links in_states is_link is_state over =
      over-links nothing at ls ss link state (step l s items) (omega (arith, in_links)) (omega (arith, in_states)) is_link is_state over

  -- once all links have run, what is left is what the last one left, and what they make of what is behind
  pub left-whole : (run : ℕ) (links : List L) (states : List S) (kept behind : List C) → run ≡ length links → length states ≡ length links
      → left_by step run links states kept behind ≡ kept ++ behind_links step links states behind
  left-whole zero [] states kept behind all same = refl
  left-whole (suc run) [] states kept behind all same = absurd (omega (arith, all))
  left-whole zero (l ∷ ls) states kept behind all same = absurd (omega (arith, all))
  left-whole (suc run) (l ∷ ls) [] kept behind all same = absurd (omega (arith, same))
  left-whole (suc run) (l ∷ ls) (s ∷ ss) kept behind all same = left-whole run ls ss kept (step l s behind) (omega (arith, all)) (omega (arith, same))

  -- what a link makes of the present list goes on as its state does
  at-link : (link l : L) (state s new : S) (kept left : List C) → link ≡ l → state ≡ s → ((more : List C) → step link state (kept ++ more) ≡ left ++ step link new more)
      → (more : List C) → step l s (kept ++ more) ≡ left ++ step l new more
  at-link link l state s new kept left is_link is_state law more =
      sym (ap (λ x. step x state (kept ++ more)) is_link ∙ ap (λ x. step l x (kept ++ more)) is_state) ∙ law more ∙ ap (λ x. left ++ step x new more) is_link

  -- a link's run: of what is left before it, the next list and what is left behind
  pub left-carried : (run : ℕ) (links : List L) (states : List S) (link : L) (state new : S) (kept left behind : List C) → run < length links → run < length states
      → link ≡ slice_index_or links run link → state ≡ slice_index_or states run state → ((more : List C) → step link state (kept ++ more) ≡ left ++ step link new more)
      → left_by step (suc run) links (slice_set states run new) left behind ≡ left_by step run links states kept behind
  left-carried run [] states link state new kept left behind in_links in_states is_link is_state law = absurd (omega (arith, in_links))
  left-carried run (l ∷ ls) [] link state new kept left behind in_links in_states is_link is_state law = absurd (omega (arith, in_states))
  left-carried zero (l ∷ ls) (s ∷ ss) link state new kept left behind in_links in_states is_link is_state law =
      ap (behind_links step ls ss) (sym (at-link link l state s new kept left is_link is_state law behind))
  left-carried (suc run) (l ∷ ls) (s ∷ ss) link state new kept left behind in_links in_states is_link is_state law =
      left-carried run ls ss link state new kept left (step l s behind) (omega (arith, in_links)) (omega (arith, in_states)) is_link is_state law

  -- the links behind stay fresh
  pub fresh-carried : (value : L → List C → List C) (run : ℕ) (links : List L) (states : List S) (new : S) → run < length links → run < length states
      → AreFresh step value (drop run links) (drop run states) → AreFresh step value (drop (suc run) links) (drop (suc run) (slice_set states run new))
  fresh-carried value run [] states new in_links in_states fresh = absurd (omega (arith, in_links))
  fresh-carried value run (l ∷ ls) [] new in_links in_states fresh = absurd (omega (arith, in_states))
  fresh-carried value zero (l ∷ ls) (s ∷ ss) new in_links in_states fresh = fresh.1
  fresh-carried value (suc run) (l ∷ ls) (s ∷ ss) new in_links in_states fresh = fresh-carried value run ls ss new (omega (arith, in_links)) (omega (arith, in_states)) fresh

  -- and what they make of the next list is what they made before
  pub value-carried : (value : L → List C → List C) → ((l : L) (s : S) → step l s [] ≡ []) → (run : ℕ) (links : List L) (states : List S) (link : L) (state new : S) (kept left : List C)
      → run < length links → run < length states → AreFresh step value (drop run links) (drop run states)
      → link ≡ slice_index_or links run link → state ≡ slice_index_or states run state → ((more : List C) → step link state (kept ++ more) ≡ left ++ step link new more)
      → through_links value (drop (suc run) links) left ≡ through_links value (drop run links) kept
  value-carried value nothing run [] states link state new kept left in_links in_states fresh is_link is_state law = absurd (omega (arith, in_links))
  value-carried value nothing run (l ∷ ls) [] link state new kept left in_links in_states fresh is_link is_state law = absurd (omega (arith, in_states))
  value-carried value nothing zero (l ∷ ls) (s ∷ ss) link state new kept left in_links in_states fresh is_link is_state law =
      ap (through_links value ls) (sym (append-nil left) ∙ ap (λ r. left ++ r) (sym (nothing l new)) ∙ sym (at-link link l state s new kept left is_link is_state law [])
      ∙ ap (step l s) (append-nil kept) ∙ fresh.0 kept)
  value-carried value nothing (suc run) (l ∷ ls) (s ∷ ss) link state new kept left in_links in_states fresh is_link is_state law =
      value-carried value nothing run ls ss link state new kept left (omega (arith, in_links)) (omega (arith, in_states)) fresh is_link is_state law

module _ {L S C : Type 0} (step : L → S → List C → List C) (images : L → C → List C) where
  -- where the segment begins: what is left is what the links make of its lists and of what is behind
  first-now : (links : List L) (states : List S) (run : ℕ) (left behind : List C) (parts : List (List C)) → IsFirstRun step images links states run → left ≡ joined parts ++ behind
      → behind_links step links states left ≡ left_by step run links states (joined (first_lists images links run parts)) behind
  first-now [] states zero left behind parts first is = is
  first-now [] states (suc zero) left behind parts first is = absurd first
  first-now [] states (suc (suc run)) left behind parts first is = absurd first
  first-now (l ∷ ls) states zero left behind parts first is = ap (behind_links step (l ∷ ls) states) is
  first-now (l ∷ ls) [] (suc zero) left behind parts first is = absurd first
  first-now (l ∷ ls) (s ∷ ss) (suc zero) left behind parts first is =
      ap (behind_links step ls ss) (first left ∙ left-through (images l) parts left behind is ∙ ap (λ b. joined (map (flat_map (images l)) parts) ++ b) (sym (first behind)))
  first-now (l ∷ ls) states (suc (suc run)) left behind parts first is = absurd first

module _ {L S T C : Type 0} (step : L → S → List C → List C) (images : L → C → List C) (content : T → C) (links : List L) (states : List S) (run : ℕ) (listed : Option (Listed T)) (done : Bool) where
  -- what is left is what the links that have not run make of the present lists, and of what is behind
  pub chain-now : (left behind : List C) (parts : List (List C)) → HoldsChain step images links states run listed → is_own_turn done listed ≡ true
      → (done ≡ true → left ≡ joined parts ++ behind)
      → left_of_chain step content run links states left behind listed ≡ left_by step run links states (joined (lists_of images content links run parts listed)) behind
  chain-now left behind parts held turn law = now listed held turn
    where
      now : (l : Option (Listed T)) → HoldsChain step images links states run l → is_own_turn done l ≡ true
          → left_of_chain step content run links states left behind l ≡ left_by step run links states (joined (lists_of images content links run parts l)) behind
      now None h is = first-now step images links states run left behind parts h.3 (law is)
      now (Some l) h is = ap (λ k. left_by step run links states k behind) (sym (joined-listed content l h.2))

  -- .. once all have run, the lists and what they make of what is behind
  pub chain-parts : (left behind : List C) (parts : List (List C)) → HoldsChain step images links states run listed → (is_own_turn done listed && (run == length links)) ≡ true
      → (done ≡ true → left ≡ joined parts ++ behind)
      → left_of_chain step content run links states left behind listed ≡ joined (lists_of images content links run parts listed) ++ behind_links step links states behind
  chain-parts left behind parts held is law =
      chain-now left behind parts held (both-true (is_own_turn done listed) (run == length links) is).0 law
      ∙ left-whole step run links states (joined (lists_of images content links run parts listed)) behind (all-run (is_own_turn done listed) run (length links) is) held.0

-- where the segment is the whole, the present lists are what the links that have run make of it
module _ {L S T C : Type 0} (step : L → S → List C → List C) (images : L → C → List C) (value : L → List C → List C) (content : T → C) (links : List L) (states : List S) (run : ℕ) (listed : Option (Listed T)) (done : Bool) where
  pub planned-now : (whole : List C) (parts : List (List C)) → HoldsListed listed → IsPlannedChain step value content whole links run states listed
      → is_own_turn done listed ≡ true → (done ≡ true → joined parts ≡ whole)
      → AreFresh step value (drop run links) (drop run states) × (through_links value (drop run links) (joined (lists_of images content links run parts listed)) ≡ through_links value links whole)
  planned-now whole parts held planned turn law = now listed held planned turn
    where
      now : (l : Option (Listed T)) → HoldsListed l → IsPlannedChain step value content whole links run states l → is_own_turn done l ≡ true
          → AreFresh step value (drop run links) (drop run states) × (through_links value (drop run links) (joined (lists_of images content links run parts l)) ≡ through_links value links whole)
      now None h p is =
          let F : ℕ → Type 0 = λ n. AreFresh step value (drop n links) (drop n states) × (through_links value (drop n links) (joined (first_lists images links n parts)) ≡ through_links value links whole) in
          subst F (sym p.1) (p.0, ap (through_links value links) (ap joined (first-none images parts links 0 refl) ∙ law is))
      now (Some l) h p is = (p.0, ap (through_links value (drop run links)) (joined-listed content l h) ∙ p.1)

  pub chain-whole : (whole : List C) (parts : List (List C)) → HoldsListed listed → IsPlannedChain step value content whole links run states listed
      → (is_own_turn done listed && (run == length links)) ≡ true → (done ≡ true → joined parts ≡ whole) → joined (lists_of images content links run parts listed) ≡ through_links value links whole
  chain-whole whole parts held planned is law =
      let all = all-run (is_own_turn done listed) run (length links) is in
      let now = planned-now whole parts held planned (both-true (is_own_turn done listed) (run == length links) is).0 law in
      ap (λ ls. through_links value ls (joined (lists_of images content links run parts listed))) (sym (ap (λ n. drop n links) all ∙ drop-all links)) ∙ now.1
    where
      drop-all : (ls : List L) → drop (length ls) ls ≡ []
      drop-all [] = refl
      drop-all (l ∷ ls) = drop-all ls

-- where nothing is asked, each leaf's list is empty
nothing-listed : {C : Type 0} (l : List C) → flat_map no_images l ≡ []
nothing-listed [] = refl
nothing-listed (x ∷ l) = nothing-listed l

pub nothing-at : {C : Type 0} (lists : List (List C)) (leaf : ℕ) → slice_index_or (map (flat_map no_images) lists) leaf [] ≡ []
nothing-at [] leaf = refl
nothing-at (l ∷ lists) zero = nothing-listed l
nothing-at (l ∷ lists) (suc leaf) = nothing-at lists leaf

-- a leaf of the present list
module _ {L T C : Type 0} (images : L → C → List C) (content : T → C) (links : List L) (run : ℕ) (parts : List (List C)) (listed : Option (Listed T)) (l : Listed T) (leaf : ℕ) (is : listed ≡ Some l) where
  pub within-list : leaf < length (lists_of images content links run parts listed) → leaf < length (ends_of l.places)
  within-list within =
      let Q : ℕ → Type 0 = λ n. leaf < n in
      subst Q (ap (λ o. length (lists_of images content links run parts o)) is ∙ length-cut_at 0 (ends_of l.places) (map content l.items.items)) within

  -- its items, through a stage
  pub list-at : {D : Type 0} (through : List C → List D) (part : List T) → slice_get (cut_at 0 (ends_of l.places) l.items.items) leaf ≡ Some part
      → slice_index_or (map through (lists_of images content links run parts listed)) leaf [] ≡ through (map content part)
  list-at through part found =
      let cut = cut_at 0 (ends_of l.places) l.items.items in
      let lists : map through (lists_of images content links run parts listed) ≡ map (λ p. through (map content p)) cut =
      ap (λ o. map through (lists_of images content links run parts o)) is ∙ ap (map through) (sym (cut_at-map content 0 (ends_of l.places) l.items.items)) ∙ map-both (map content) through cut in
      ap (λ ls. slice_index_or ls leaf []) lists ∙ get-mapped (λ p. through (map content p)) cut leaf part [] found
