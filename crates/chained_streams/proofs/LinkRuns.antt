-- The run of a link.
use Rattle.std.specs.Prelude.{◌≡◌, ◌<◌, ◌≤◌, ◌++◌, ℕ, zero, suc, Bool, true, List, [], ◌∷◌, Option, Some, None, Result, Ok, Err, IfOk, flat_map, length, map, slice_get, slice_index_or, refl}
use Rattle.std.proofs.Common.{sym, ap, ◌∙◌, subst, arith, inl}
use Rattle.std.specs.Option.{is_some}
use Rattle.std.proofs.lemmas.List.{length-map}
use Rattle.std.proofs.lemmas.List.Concat.{flat_map-append}
use Rattle.std.proofs.lemmas.List.Elements.{All-nil}
use Rattle.barriers.specs.Needs.{KeepsEnough, IsOutcome, IsToldBy, no_item}
use Rattle.barriers.specs.Thinned.{IsThinned}
use Rattle.collectors.specs.NestedLaws.{push}
use Rattle.leaf_board.specs.Closing.{Outcome, count_of, cut_of}
use Rattle.leaf_reading.specs.Fronts.{folding}
use Rattle.leaf_reading.specs.declared.leaf_end.LeafEnd.{LeafEnd}
use Rattle.leaf_reading.specs.declared.leaf_end.LeafEnd.TheVariants.{Done}
use Rattle.stealing_pool.specs.Jobs.{Work, EndsLeaf, StandsForRun}
use Rattle.stealing_pool.specs.Reports.{Reports}
use Rattle.stealing_pool.specs.Spans.{joined, work_of}
use Rattle.stealing_pool.specs.SpanLaws.{leaf-ends}
use Rattle.parallel_streams.specs.LeafLaws.{joined-through, map-fused}
use Rattle.parallel_streams.specs.Progress.{EndedThinned, barred_work}
use Rattle.parallel_streams.specs.ProgressLaws.{ends-own, ends-own_ok}
use Rattle.parallel_streams.specs.declared.kept.Kept.{Kept}
use Rattle.parallel_streams.specs.declared.kept.Kept.TheVariants.{Own}
use Rattle.parallel_streams.proofs.Gathering.{goes-on, kept-own}
use Rattle.chained_streams.specs.Chains.{counted_at, images_at, link_work, needed_at, no_images}
use Rattle.chained_streams.specs.ChainLaws.{nothing-at}

-- the element at a place, and behind the last
pub get-some : {X : Type 0} (xs : List X) (i : ℕ) (x : X) → i < length xs → x ≡ slice_index_or xs i x → slice_get xs i ≡ Some x
get-some [] i x within is = absurd (omega (arith, within))
get-some (y ∷ xs) zero x within is = ap Some (sym is)
get-some (y ∷ xs) (suc i) x within is = get-some xs i x (omega (arith, within)) is

pub get-none : {X : Type 0} (xs : List X) (i : ℕ) → length xs ≤ i → slice_get xs i ≡ None
get-none [] i all = refl
get-none (y ∷ xs) zero all = absurd (omega (arith, all))
get-none (y ∷ xs) (suc i) all = get-none xs i (omega (arith, all))

module _ {L S T C : Type 0} (needed : L → S → Option ℕ) (counted : L → C → Bool) (behind : L → S → List C → List C) (images : L → C → List C) (is_value : C → Type 0) (content : T → C) (lists : List (List C)) where
  abbrev own : Option L → Option S → Work (List T)
  own link state = link_work needed counted behind images is_value content link state lists

  -- what leaves list for a link's run
  abbrev listed : Option L → Option S → Work (List T)
  listed link state = work_of (folding (needed_at needed link state) (counted_at counted link state) is_value [] push) (map content) (map (flat_map (images_at images link state)) lists)

  -- a leaf of the run of a link
  pub ends-link : {P E : Type 0} (before : Work P) (turn : Bool) (links : Option L) (states : Option S) (link : L) (state : S) (cut leaf : ℕ) (r : Result (LeafEnd (List T)) E) (ended : Result (LeafEnd (Kept P T)) E)
      → turn ≡ true → links ≡ Some link → states ≡ Some state → EndedThinned (λ whole kept. IsThinned (needed link state) (behind link state) (map content whole) (map content kept)) ended r
      → IfOk r (EndsLeaf (listed (Some link) (Some state)) cut leaf) → IfOk ended (EndsLeaf (barred_work turn before (own links states)) cut leaf)
  ends-link before turn links states link state cut leaf r ended is is_link is_state thinned h =
      let P' : Option L → Type 0 = λ l. IfOk ended (EndsLeaf (barred_work turn before (own l states)) cut leaf) in
      let Q : Option S → Type 0 = λ s. IfOk ended (EndsLeaf (barred_work turn before (own (Some link) s)) cut leaf) in
      let mine = ends-own_ok before (needed link state) (counted link) is_value content (behind link state) (map (flat_map (images link)) lists) turn cut leaf r ended thinned is h in
      subst P' (sym is_link) (subst Q (sym is_state) mine)

  -- its run has a leaf a list
  pub leaves-own : {P : Type 0} (before : Work P) (turn : Bool) (link : Option L) (state : Option S) (leaf : ℕ) → turn ≡ true → leaf < (barred_work turn before (own link state)).leaves → leaf < length lists
  leaves-own before turn link state leaf is within =
      let W : Bool → Type 0 = λ b. leaf < (barred_work b before (own link state)).leaves in
      let V : ℕ → Type 0 = λ n. leaf < n in
      subst V (length-map lists (flat_map (images_at images link state))) (subst W is within)

  nothing-ends : (cut leaf : ℕ) (state : Option S) → leaf < length lists → EndsLeaf (own None state) cut leaf (Done (record { count = 0; kept = [] }))
  nothing-ends cut leaf state within =
      let W : ℕ → Type 0 = λ n. leaf < n in
      let ends = leaf-ends (folding None no_item is_value [] push) (λ l. l) (map (flat_map no_images) lists) leaf cut [] (subst W (sym (length-map lists (flat_map no_images))) within) (nothing-at lists leaf)
      (Done (record { count = 0; kept = [] }))
      ([], [], refl, (All-nil is_value, refl), refl, refl, (λ one n few. absurd (omega (arith, few))), inl refl) in
      (([], ends.0, λ before more. refl), ends.1, ends.2)

  -- once all links have run, nothing is kept
  pub nothing-kept : {P E : Type 0} (before : Work P) (turn : Bool) (link : Option L) (state : Option S) (cut leaf : ℕ) (r : Result (LeafEnd (Kept P T)) E) → turn ≡ true → link ≡ None
      → leaf < (barred_work turn before (own link state)).leaves
      → IfOk r (λ end. end ≡ Done (record { count = 0; kept = Own [] })) → IfOk r (EndsLeaf (barred_work turn before (own link state)) cut leaf)
  nothing-kept before turn link state cut leaf (Err e) is none within h = tt
  nothing-kept {P} before turn link state cut leaf (Ok end) is none within h =
      let Q : LeafEnd (Kept P T) → Type 0 = λ e. EndsLeaf (barred_work turn before (own link state)) cut leaf e in
      let R : Option L → Type 0 = λ l. EndsLeaf (barred_work turn before (own l state)) cut leaf (Done (record { count = 0; kept = Own [] })) in
      let W : Bool → Type 0 = λ b. leaf < (barred_work b before (own link state)).leaves in
      let V : ℕ → Type 0 = λ n. leaf < n in
      let few = subst V (length-map lists (flat_map (images_at images link state))) (subst W is within) in
      subst Q (sym h) (subst R (sym none) (ends-own before (own None state) turn cut leaf (Done (record { count = 0; kept = [] })) is (nothing-ends cut leaf state few)))

  -- what a link's run kept
  pub kept-link : {P : Type 0} (before : Work P) (turn : Bool) (links : Option L) (states : Option S) (link : L) (state : S) (part : Kept P T) (items : List T) (entry : Outcome)
      → links ≡ Some link → states ≡ Some state → part ≡ Own items
      → StandsForRun (barred_work turn before (own links states)) part
      → Reports (barred_work turn before (own links states)).needed (barred_work turn before (own links states)).leaves (barred_work turn before (own links states)).full entry.leaves (count_of entry) (cut_of entry)
      → (turn ≡ true) × (front : List C) × IsOutcome (needed link state) (counted link) (flat_map (images link) (joined lists)) front × IsThinned (needed link state) (behind link state) front (map content items)
      × IsToldBy (needed link state) (counted link) (map content items) (is_some (cut_of entry))
  kept-link {P} before turn links states link state part items entry is_link is_state is stands reports =
      let work : Option L → Option S → Work (Kept P T) = λ l s. barred_work turn before (own l s) in
      let Stands : Option L → Option S → Type 0 = λ l s. StandsForRun (work l s) part in
      let Told : Option L → Option S → Type 0 = λ l s. Reports (work l s).needed (work l s).leaves (work l s).full entry.leaves (count_of entry) (cut_of entry) in
      let stood = subst (λ s. Stands (Some link) s) is_state (subst (λ l. Stands l states) is_link stands) in
      let told = subst (λ s. Told (Some link) s) is_state (subst (λ l. Told l states) is_link reports) in
      let kept = kept-own before is_value (needed link state) (counted link) content (behind link state) (map (flat_map (images link)) lists) turn part items entry is stood told in
      let Q : List C → Type 0 = λ whole. IsOutcome (needed link state) (counted link) whole kept.1.0 in
      (kept.0, kept.1.0, subst Q (joined-through (images link) lists (joined lists) refl) kept.1.1, kept.1.2, kept.1.3)

-- .. and what it leaves of the present list, whatever is behind that
pub carried-link : {C : Type 0} (needed : Option ℕ) (counted : C → Bool) (images : C → List C) (old now : List C → List C) → KeepsEnough needed counted old
    → (whole front left : List C) → IsOutcome needed counted (flat_map images whole) front → ((more : List C) → old (front ++ more) ≡ left ++ now more)
    → (more : List C) → old (flat_map images (whole ++ more)) ≡ left ++ now (flat_map images more)
carried-link needed counted images old now law whole front left outcome carried more =
    ap old (flat_map-append images whole more) ∙ goes-on needed counted old now law (flat_map images whole) front left outcome carried (flat_map images more)

-- what holds of the leaves' lists through the first link's stage and another fused holds through one after the other
pub through-fused : {A G C D : Type 0} (expand : A → C → List C) (onward : G → C → List D) (P : List (List D) → Type 0) (a a' : A) (b b' : G) (parts lists : List (List C))
    → a ≡ a' → b ≡ b' → lists ≡ map (flat_map (expand a')) parts → P (map (flat_map (λ x. flat_map (onward b) (expand a x))) parts) → P (map (flat_map (onward b')) lists)
through-fused {A} {G} expand onward P a a' b b' parts lists first second is fused =
    let Q : A → Type 0 = λ x. P (map (flat_map (λ y. flat_map (onward b) (expand x y))) parts) in
    let R : G → Type 0 = λ x. P (map (flat_map (λ y. flat_map (onward x) (expand a' y))) parts) in
    subst P (map-fused (expand a') (onward b') parts ∙ ap (map (flat_map (onward b'))) (sym is)) (subst R second (subst Q first fused))
