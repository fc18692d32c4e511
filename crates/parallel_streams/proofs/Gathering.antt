-- What a barrier makes of what its run kept.
use Rattle.std.specs.Prelude.{◌≡◌, ℕ, Bool, true, false, List, [], ◌++◌, Option, map, length, refl}
use Rattle.std.proofs.Common.{sym, ap, ◌∙◌, subst, ⊎_elim, append-nil, append_assoc}
use Rattle.std.specs.Option.{is_some}
use Rattle.barriers.specs.Needs.{KeepsEnough, IsOutcome, IsToldBy}
use Rattle.barriers.specs.Thinned.{IsThinned, thinned-told}
use Rattle.collectors.specs.NestedLaws.{push, listed}
use Rattle.leaf_board.specs.Closing.{Outcome, count_of, cut_of}
use Rattle.leaf_reading.specs.Fronts.{folding}
use Rattle.stealing_pool.specs.Spans.{joined, full_count}
use Rattle.stealing_pool.specs.Jobs.{Work, StandsForRun}
use Rattle.stealing_pool.specs.Reports.{Reports}
use Rattle.stealing_pool.specs.SpanLaws.{run-last}
use Rattle.parallel_streams.specs.Progress.{own_work, barred_work}
use Rattle.parallel_streams.specs.ProgressLaws.{stands-own}
use Rattle.parallel_streams.specs.declared.kept.Kept.{Kept}
use Rattle.parallel_streams.specs.declared.kept.Kept.TheVariants.{Own}
use Rattle.parallel_streams.proofs.Hits.{front-told}

module _ {P T C : Type 0} (before : Work P) (is_value : C → Type 0) (needed : Option ℕ) (counted : C → Bool) (content : T → C) (value : List C → List C) (lists : List (List C)) where
  abbrev own : Work (List T)
  own = own_work needed counted is_value content value lists

  -- what a run kept: so much of a front that it makes the same difference
  abbrev KeptOwn : List T → Outcome → Type 0
  KeptOwn items entry =
      (front : List C) × IsOutcome needed counted (joined lists) front × IsThinned needed value front (map content items) × IsToldBy needed counted (map content items) (is_some (cut_of entry))
      × Reports needed (length lists) (full_count counted lists) entry.leaves (count_of entry) (cut_of entry)

  kept-front : (items : List T) (entry : Outcome) → StandsForRun own items → Reports needed (length lists) (full_count counted lists) entry.leaves (count_of entry) (cut_of entry) → KeptOwn items entry
  kept-front items entry (to, count, within, (front, keeps, thinned), last) reports =
      let run = run-last (folding needed counted is_value [] push) (λ l. l) lists front (to, count, within, keeps, last) in
      let same : run.0 ≡ front = sym (run.2.1 ∙ listed run.0) in
      let Outcome' : List C → Type 0 = λ l. IsOutcome needed counted (joined lists) l in
      let Told : List C → Type 0 = λ l. IsToldBy needed counted l (is_some (cut_of entry)) in
      let told = subst Told same (front-told needed counted lists entry.leaves (count_of entry) (cut_of entry) run.0 reports run.1 run.3) in
      (front, subst Outcome' same run.1, thinned, thinned-told value needed counted front (map content items) (is_some (cut_of entry)) thinned told, reports)

  pub kept-own : (done : Bool) (part : Kept P T) (items : List T) (entry : Outcome) → part ≡ Own items
      → StandsForRun (barred_work done before own) part
      → Reports (barred_work done before own).needed (barred_work done before own).leaves (barred_work done before own).full entry.leaves (count_of entry) (cut_of entry)
      → (done ≡ true) × KeptOwn items entry
  kept-own false part items entry is stands reports =
      let Q : Kept P T → Type 0 = λ p. StandsForRun (barred_work false before own) p in
      let none = (stands-own before own false items (subst Q is stands)).0 in
      absurd (no-true none)
    where
      no-true : false ≡ true → ⊥
      no-true e = cc
  kept-own true part items entry is stands reports =
      let Q : Kept P T → Type 0 = λ p. StandsForRun (barred_work true before own) p in
      (refl, kept-front items entry (stands-own before own true items (subst Q is stands)).1 reports)

module _ {C : Type 0} (needed : Option ℕ) (counted : C → Bool) (value_before value_after : List C → List C) (law : KeepsEnough needed counted value_before)
    (whole front kept : List C) (outcome : IsOutcome needed counted whole front) (carried : (more : List C) → value_before (front ++ more) ≡ kept ++ value_after more) where
  -- what a barrier makes of a segment and of what is behind it: what it leaves of a front that is all of the segment or enough, and what it then makes of what is behind
  pub goes-on : (behind : List C) → value_before (whole ++ behind) ≡ kept ++ value_after behind
  goes-on behind =
      let rest = outcome.0 in
      let joins = outcome.1 in
      ⊎_elim
      (λ none. ap (λ l. value_before (l ++ behind)) (joins ∙ ap (λ r. front ++ r) none ∙ append-nil front) ∙ carried behind)
      (λ enough. ap (λ l. value_before (l ++ behind)) joins ∙ ap value_before (append_assoc front rest behind) ∙ law front (rest ++ behind) enough
      ∙ sym (law front behind enough) ∙ carried behind)
      outcome.2

  -- of the whole list it leaves its value
  pub kept-value : (value : List C → List C) → ((l : List C) → value_before l ≡ value l) → value_after [] ≡ [] → kept ≡ value whole
  kept-value value fresh nothing =
      sym (append-nil kept) ∙ ap (λ l. kept ++ l) (sym nothing) ∙ sym (goes-on []) ∙ ap value_before (append-nil whole) ∙ fresh whole
