-- Whether some item counts, where one is enough: whether the run was cut.
use Rattle.std.specs.Prelude.{◌≡◌, ◌<◌, ◌≤◌, ◌+◌, ℕ, zero, suc, Bool, List, Option, Some, None, true, false, count_by, cond, take, drop, length, nat_lt, refl}
use Rattle.std.proofs.Common.{sym, ap, ◌∙◌, subst, arith, ⊎_elim, true≢false}
use Rattle.std.proofs.lemmas.List.{take_all}
use Rattle.std.proofs.lemmas.List.Sums.{sum_by-append}
use Rattle.std.proofs.lemmas.Bool.Decides.{nat_tests}
use Rattle.std.specs.Option.{is_some}
use Rattle.barriers.specs.Needs.{IsOutcome, CountsLast, IsToldBy}
use Rattle.leaf_board.specs.Case.{sum_below}
use Rattle.stealing_pool.specs.Spans.{joined, full_count}
use Rattle.stealing_pool.specs.Reports.{Reported, Reports}
use Rattle.stealing_pool.specs.SpanLaws.{sum-counts}
use Rattle.parallel_streams.specs.Meeting.{any-by-count}
use Rattle.parallel_streams.specs.Terminals.{any_meets}
use Rattle.parallel_streams.proofs.Harmless.{joined-split}

sum-none : (f : ℕ → ℕ) (n : ℕ) → ((i : ℕ) → i < n → f i ≡ 0) → sum_below f n ≡ 0
sum-none f zero none = refl
sum-none f (suc n) none =
    let before = sum-none f n (λ i within. none i (omega (arith, within))) in
    let last = none n (omega arith) in
    omega (arith, before, last)

-- a leaf without a count that is enough has no counting item, where no leaf was skipped
none-counts : (full i : ℕ) (count cut : Option ℕ) → cut ≡ None → ((n : ℕ) → count ≡ Some n → 1 ≤ n → (c : ℕ) × (cut ≡ Some c) × (c ≤ i)) → Reported (Some 1) full i count cut → full ≡ 0
none-counts full i count cut uncut found told =
    ⊎_elim
    (λ counted.
    let n = counted.0 in
    let some : 1 ≤ n → ⊥ = λ one. let at = found n counted.1 one in no-cut cut at.0 uncut at.1 in
    let lawful = counted.2 in
    ⊎_elim (λ all. few n full some all) (λ enough. absurd (some enough)) lawful.1)
    (λ skipped. absurd (no-cut cut skipped.1.0 uncut skipped.1.1))
    told
  where
    no-cut : (cut : Option ℕ) (c : ℕ) → cut ≡ None → cut ≡ Some c → ⊥
    no-cut cut c none some = cc

    few : (n full : ℕ) → (1 ≤ n → ⊥) → n ≡ full → full ≡ 0
    few n full some all = omega (arith, some, all)

some-count : (n : ℕ) → 1 ≤ n → nat_lt 0 n ≡ true
some-count n one = grind (arith, nat_tests)

module _ {T : Type 0} (counted : T → Bool) (lists : List (List T)) (recorded : ℕ) (count : ℕ → Option ℕ) (cut : Option ℕ) where
  -- no cut: none of all items counts
  pub uncut-none : Reports (Some 1) (length lists) (full_count counted lists) recorded count cut → cut ≡ None → count_by counted (joined lists) ≡ 0
  uncut-none reports uncut =
      let none = sum-none (full_count counted lists) (length lists)
      (λ i within. none-counts (full_count counted lists i) i (count i) cut uncut (λ n is one. reports.cut_found i n within is one) (reports.each i within)) in
      let sums = sum-counts counted lists (length lists) (omega arith) in
      ap (λ l. count_by counted (joined l)) (sym (take_all (length lists) lists (omega arith))) ∙ sym sums ∙ none

  -- a cut: some item counts
  pub cut-some : (c : ℕ) → Reports (Some 1) (length lists) (full_count counted lists) recorded count cut → cut ≡ Some c → 1 ≤ count_by counted (joined lists)
  cut-some c reports is =
      let justified = reports.justified c is in
      let sums = sum-counts counted lists (c + 1) (omega (arith, justified.0)) in
      let whole = ap (count_by counted) (joined-split (c + 1) lists) in
      let parts = sum_by-append (λ x. cond (counted x) 1 0) (joined (take (c + 1) lists)) (joined (drop (c + 1) lists)) in
      omega (arith, justified.1, sums, whole, parts)

  -- whether some item counts is told by whether there is a cut
  pub met-by-cut : Reports (Some 1) (length lists) (full_count counted lists) recorded count cut → is_some cut ≡ any_meets counted (joined lists)
  met-by-cut reports = told cut refl
    where
      told : (o : Option ℕ) → cut ≡ o → is_some cut ≡ any_meets counted (joined lists)
      told None is = ap is_some is ∙ sym (any-by-count counted (joined lists) ∙ ap (nat_lt 0) (uncut-none reports is))
      told (Some c) is = ap is_some is ∙ sym (any-by-count counted (joined lists) ∙ some-count (count_by counted (joined lists)) (cut-some c reports is))

no-cut : (cut : Option ℕ) → is_some cut ≡ false → cut ≡ None
no-cut None is = refl
no-cut (Some c) is = absurd (true≢false is)

a-cut : (cut : Option ℕ) → is_some cut ≡ true → (c : ℕ) × (cut ≡ Some c)
a-cut None is = absurd (true≢false (sym is))
a-cut (Some c) is = (c, refl)

-- what a run kept of a list tells by its cut whether some item counts
pub front-told : {T : Type 0} (needed : Option ℕ) (counted : T → Bool) (lists : List (List T)) (recorded : ℕ) (count : ℕ → Option ℕ) (cut : Option ℕ) (front : List T)
    → Reports needed (length lists) (full_count counted lists) recorded count cut → IsOutcome needed counted (joined lists) front → CountsLast needed counted front → IsToldBy needed counted front (is_some cut)
front-told None counted lists recorded count cut front reports outcome last = record { none = λ uncut one. absurd cc; some = λ is one. absurd cc; last = last }
front-told (Some r) counted lists recorded count cut front reports (rest, joins, outcome) last =
    record {
      none = λ uncut one. few (same one) (uncut-none counted lists recorded count cut (at-one one) (no-cut cut uncut));
      some = λ is one. let at = a-cut cut is in many (same one) (cut-some counted lists recorded count cut at.0 (at-one one) at.1);
      last = last;
    }
  where
    same : Some r ≡ Some 1 → r ≡ 1
    same one = cc

    at-one : Some r ≡ Some 1 → Reports (Some 1) (length lists) (full_count counted lists) recorded count cut
    at-one one = let P : Option ℕ → Type 0 = λ n. Reports n (length lists) (full_count counted lists) recorded count cut in subst P one reports

    parts : count_by counted (joined lists) ≡ count_by counted front + count_by counted rest
    parts = ap (count_by counted) joins ∙ sum_by-append (λ x. cond (counted x) 1 0) front rest

    few : r ≡ 1 → count_by counted (joined lists) ≡ 0 → count_by counted front ≡ 0
    few one none = omega (arith, parts, none)

    many : r ≡ 1 → 1 ≤ count_by counted (joined lists) → 1 ≤ count_by counted front
    many one some =
        ⊎_elim
        (λ all. let nothing : count_by counted rest ≡ 0 = ap (count_by counted) all in omega (arith, parts, nothing, some))
        (λ enough. omega (arith, one, enough))
        outcome
