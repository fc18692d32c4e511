-- What a search makes of the segments of a stream.
use Rattle.std.specs.Prelude.{◌≡◌, ◌≢◌, ◌≤◌, ◌<◌, ◌++◌, ◌∷◌, [], ℕ, Bool, true, false, cond, nat_lt, length, map, drop, List, Option, Some, None, refl}
use Rattle.std.proofs.Common.{sym, ap, ◌∙◌, subst, append-nil, append_assoc, arith, ⊎_elim, true≢false}
use Rattle.std.proofs.lemmas.List.{drop_all}
use Rattle.std.proofs.lemmas.Bool.Decides.{nat_tests}
use Rattle.std.specs.Option.{is_some}
use Rattle.barriers.specs.Needs.{every_item}
use Rattle.barriers.specs.NeedLaws.{value-front}
use Rattle.collectors.specs.Laws.{IsContainerOf}
use Rattle.collectors.specs.Reductions.{first}
use Rattle.leaf_board.specs.Closing.{Outcome, count_of, cut_of}
use Rattle.leaf_reading.specs.Fronts.{folding, IsFront}
use Rattle.stealing_pool.specs.Reports.{Reports}
use Rattle.stealing_pool.specs.Spans.{full_count, joined}
use Rattle.parallel_streams.specs.Meeting.{any-append, met-of, KeepsEnough-any}
use Rattle.parallel_streams.specs.Reading.{ReadsLittle, first_segment}
use Rattle.parallel_streams.specs.Reports.{IsRunOver}
use Rattle.parallel_streams.specs.Searches.{DecidesOrHits, IsHit, IsFound}
use Rattle.parallel_streams.specs.Terminals.{any_meets}
use Rattle.parallel_streams.proofs.Hits.{met-by-cut}

module _ {T A C : Type 0} (is_value : T → Type 0) (content : A → C) (empty : C) (add : C → T → C) (counted : T → Bool) (lists : List (List T)) (needed : Option ℕ) (acc : A) (entry : Outcome)
    (one : needed ≡ Some 1) (ran : IsRunOver (folding needed counted is_value empty add) (content acc) lists entry) where
  -- whether a run was cut tells whether some item counts
  told : is_some (cut_of entry) ≡ any_meets counted (joined lists)
  told =
      let P : Option ℕ → Type 0 = λ n. Reports n (length lists) (full_count counted lists) entry.leaves (count_of entry) (cut_of entry) in
      met-by-cut counted lists entry.leaves (count_of entry) (cut_of entry) (subst P one ran.1)

  -- what one run found
  pub found-run : IsFound counted (IsContainerOf is_value content empty add) (joined lists) acc (is_some (cut_of entry))
  found-run = by_cut (is_some (cut_of entry)) told
    where
      P : Option ℕ → Type 0
      P n = IsFront (folding n counted is_value empty add) (joined lists) (content acc)

      kept : P (Some 1)
      kept = subst P one ran.0

      some : any_meets counted (joined lists) ≡ any_meets counted kept.0
      some = value-front (Some 1) counted (any_meets counted) (KeepsEnough-any counted) (joined lists) kept.0 kept.1

      all : false ≡ any_meets counted (joined lists) → joined lists ≡ kept.0
      all none =
          ⊎_elim
          (λ nothing. kept.1.1 ∙ ap (λ l. kept.0 ++ l) nothing ∙ append-nil kept.0)
          (λ enough. absurd (true≢false (sym (met-of counted kept.0 enough) ∙ sym some ∙ sym none)))
          kept.1.2

      by_cut : (b : Bool) → b ≡ any_meets counted (joined lists) → IsFound counted (IsContainerOf is_value content empty add) (joined lists) acc b
      by_cut false is = (subst (λ l. IsContainerOf is_value content empty add l acc) (sym (all is)) kept.2, sym is)
      by_cut true is = record { front = kept.0; more = kept.1.0; are = kept.1.1; some = sym some ∙ sym is; kept = kept.2 }

-- no front decides where the stream goes on and nothing counts
pub no-end : {T : Type 0} (decided : ℕ → Type 0) (counted : T → Bool) (front : ℕ → List T) (n : ℕ) → (decided n → ⊥) → any_meets counted (front n) ≡ false → DecidesOrHits decided counted front n → ⊥
no-end decided counted front n undecided none end = ⊎_elim undecided (λ some. true≢false (sym some ∙ none)) end

any-either : (b c : Bool) → c ≡ true → cond b true c ≡ true
any-either true c is = refl
any-either false c is = is

module _ {T A : Type 0} (counted : T → Bool) (made : List T → A → Type 0) where
  -- one segment more
  pub found-more : (done items : List T) (acc after : A) (met : Bool) → any_meets counted done ≡ false → IsFound counted made items acc met
      → ((l : List T) → made l acc → made (done ++ l) after) → IsFound counted made (done ++ items) after met
  found-more done items acc after false none found more = (more items found.0, any-append counted done items ∙ ap (λ b. cond b true (any_meets counted items)) none ∙ found.1)
  found-more done items acc after true none found more = record {
    front = done ++ found.front;
    more = found.more;
    are = ap (λ l. done ++ l) found.are ∙ sym (append_assoc done found.front found.more);
    some = any-append counted done found.front ∙ any-either (any_meets counted done) (any_meets counted found.front) found.some;
    kept = more found.front found.kept;
  }

  -- some items more, of which a front was taken: all of them, where none of it counts
  pub found-taken : (done front more : List T) (acc after : A) (met : Bool) → IsFound counted made done acc false → met ≡ any_meets counted front
      → (met ≡ false → more ≡ []) → (made done acc → made (done ++ front) after) → IsFound counted made (done ++ (front ++ more)) after met
  found-taken done front more acc after false found is all more_made =
      subst (λ l. IsFound counted made (done ++ (front ++ l)) after false) (sym (all refl))
      (subst (λ l. IsFound counted made (done ++ l) after false) (sym (append-nil front))
      (more_made found.0, any-append counted done front ∙ ap (λ b. cond b true (any_meets counted front)) found.1 ∙ sym is))
  found-taken done front more acc after true found is all more_made = record {
    front = done ++ front;
    more = more;
    are = sym (append_assoc done front more);
    some = any-append counted done front ∙ any-either (any_meets counted done) (any_meets counted front) (sym is);
    kept = more_made found.0;
  }

  -- a hit in a front is one in the whole list
  pub found-whole : (whole done behind : List T) (acc : A) → whole ≡ done ++ behind → IsFound counted made done acc true → IsFound counted made whole acc true
  found-whole whole done behind acc are found = record {
    front = found.front;
    more = found.more ++ behind;
    are = are ∙ ap (λ l. l ++ behind) found.are ∙ append_assoc found.front found.more behind;
    some = found.some;
    kept = found.kept;
  }

  -- where nothing stands behind, all is the whole list
  pub found-all : (whole done behind : List T) (acc : A) → whole ≡ done ++ behind → behind ≡ [] → IsFound counted made done acc false → IsFound counted made whole acc false
  found-all whole done behind acc are last found = subst (λ l. IsFound counted made l acc false) (sym (are ∙ ap (λ l. done ++ l) last ∙ append-nil done)) found

  -- nothing counts of what the segments up to the present one give, where nothing did before
  pub missed-more : (before items now : List T) (acc : A) (met : Bool) → now ≡ before ++ items → any_meets counted before ≡ false → IsFound counted made items acc met → met ≡ false → any_meets counted now ≡ false
  missed-more before items now acc false is none found missed =
      ap (any_meets counted) is ∙ any-append counted before items ∙ ap (λ b. cond b true (any_meets counted items)) none ∙ found.1
  missed-more before items now acc true is none found missed = absurd (true≢false missed)

  -- a hit tells that some item counts, and none that none does
  pub found-counts : (whole : List T) (acc : A) (met : Bool) → IsFound counted made whole acc met → met ≡ any_meets counted whole
  found-counts whole acc false found = sym found.1
  found-counts whole acc true found =
      sym (ap (any_meets counted) found.are ∙ any-append counted found.front found.more ∙ ap (λ b. cond b true (any_meets counted found.more)) found.some)

-- Where every item counts, a hit has the first.
first-hit : {T : Type 0} (whole front more : List T) → whole ≡ front ++ more → any_meets every_item front ≡ true → first front ≡ first whole
first-hit whole [] more are some = absurd cc
first-hit whole (x ∷ front) more are some = ap first (sym are)

pub found-first : {T A : Type 0} (made : List T → A → Type 0) (whole : List T) (acc : A) (met : Bool) → IsFound every_item made whole acc met
    → (front : List T) × made front acc × (first front ≡ first whole)
found-first made whole acc false found = (whole, found.0, refl)
found-first made whole acc true found = (found.front, found.kept, first-hit whole found.front found.more found.are found.some)

-- one item alone
pub met-alone : {T : Type 0} (counted : T → Bool) (x : T) → counted x ≡ any_meets counted (x ∷ [])
met-alone counted x = at (counted x)
  where
    at : (b : Bool) → b ≡ cond b true false
    at true = refl
    at false = refl

-- where none of a block counts, all of it is taken
pub none-left : {T X : Type 0} (content : T → X) (items : List T) (taken counting : ℕ) → (counting < 1 → taken ≡ length items) → nat_lt 0 counting ≡ false
    → map content (drop taken items) ≡ []
none-left content items taken counting whole none =
    let few : counting < 1 = grind (arith, none, nat_tests) in
    ap (λ n. map content (drop n items)) (whole few) ∙ ap (map content) (drop_all (length items) items (omega arith))

-- nothing counts of nothing
pub nothing-met : {T : Type 0} (counted : T → Bool) (l : List T) → l ≡ [] → any_meets counted l ≡ false
nothing-met counted l none = ap (any_meets counted) none

-- where the first segment is bounded
pub few-begun : (decided : ℕ → Type 0) (to : ℕ) (most : Option ℕ) → most ≢ None → (most ≢ None → to ≤ first_segment) → ReadsLittle decided to
few-begun decided to most bounded few k from = let short = few bounded in omega (arith, short)
