-- What was skipped can't matter: other lists in the place of skipped leaves leave the answer the same.
use Rattle.std.specs.Prelude.{◌≡◌, ◌<◌, ◌≤◌, ◌+◌, ◌≢◌, ℕ, zero, suc, Bool, refl, List, [], ◌∷◌, ◌++◌, Option, Some, None, take, drop, length, slice_index_or}
use Rattle.std.proofs.Common.{sym, ap, ap₂, ◌∙◌, subst, arith, ⊎_elim}
use Rattle.std.proofs.lemmas.List.{take-append-drop}
use Rattle.barriers.specs.Needs.{KeepsEnough, IsEnough, Reaches}
use Rattle.leaf_board.specs.Closing.{Outcome, count_of, cut_of}
use Rattle.stealing_pool.specs.Spans.{joined, full_count}
use Rattle.stealing_pool.specs.Reports.{Reported, Reports}
use Rattle.stealing_pool.specs.SpanLaws.{joined-append, sum-counts}
use Rattle.parallel_streams.specs.Reports.{IsHarmless, IsEntryOf}

pub joined-split : {T : Type 0} (n : ℕ) (lists : List (List T)) → joined lists ≡ joined (take n lists) ++ joined (drop n lists)
joined-split n lists = ap joined (sym (take-append-drop n lists)) ∙ joined-append (take n lists) (drop n lists)

-- the same front of enough leaves, the same answer
same-front : {T A : Type 0} (needed : Option ℕ) (counted : T → Bool) (answer : List T → A) → KeepsEnough needed counted answer
    → (n : ℕ) (lists others : List (List T)) → take n others ≡ take n lists → IsEnough needed counted (joined (take n lists)) → answer (joined others) ≡ answer (joined lists)
same-front needed counted answer law n lists others same enough =
    let P : List _ → Type 0 = λ front. IsEnough needed counted (joined front) in
    ap answer (joined-split n others)
    ∙ law (joined (take n others)) (joined (drop n others)) (subst P (sym same) enough)
    ∙ ap (λ front. answer (joined front)) same
    ∙ sym (law (joined (take n lists)) (joined (drop n lists)) enough)
    ∙ sym (ap answer (joined-split n lists))

-- lists that agree at each place below n begin alike
take-same : {T : Type 0} (n : ℕ) (lists others : List (List T)) → length others ≡ length lists
    → ((i : ℕ) → i < n → i < length lists → slice_index_or others i [] ≡ slice_index_or lists i []) → take n others ≡ take n lists
take-same zero lists others leaves same = refl
take-same (suc n) [] [] leaves same = refl
take-same (suc n) [] (y ∷ others) leaves same = absurd (omega (arith, leaves))
take-same (suc n) (x ∷ lists) [] leaves same = absurd (omega (arith, leaves))
take-same (suc n) (x ∷ lists) (y ∷ others) leaves same =
    let rest = take-same n lists others (omega (arith, leaves)) (λ i below within. same (suc i) (omega arith) (omega arith)) in
    ap₂ (λ a l. a ∷ l) (same 0 (omega arith) (omega arith)) rest

take-all : {T : Type 0} (l : List T) → take (length l) l ≡ l
take-all [] = refl
take-all (x ∷ l) = ap (λ m. x ∷ m) (take-all l)

some≢none : {X : Type 0} (x : X) → Some x ≢ None
some≢none x e = cc

-- a leaf at or left of the cut has a count
has-count : (needed : Option ℕ) (full i : ℕ) (count : Option ℕ) (cut : Option ℕ) → ((c : ℕ) → cut ≡ Some c → i ≤ c) → Reported needed full i count cut → count ≢ None
has-count needed full i count cut left told none =
    ⊎_elim
    (λ counted. some≢none counted.0 (sym counted.1 ∙ none))
    (λ skipped. let place = left skipped.1.0 skipped.1.1 in let past = skipped.1.2 in absurd (omega arith))
    told

module _ {T A : Type 0} (needed : Option ℕ) (counted : T → Bool) (answer : List T → A) (law : KeepsEnough needed counted answer) (lists : List (List T)) (count : ℕ → Option ℕ) where
  harmless-at : (recorded : ℕ) (cut : Option ℕ) → Reports needed (length lists) (full_count counted lists) recorded count cut → (option : Option ℕ) → cut ≡ option → IsHarmless answer count lists
  harmless-at recorded cut reports None is others replaced =
      let none : (c i : ℕ) → cut ≡ Some c → i ≤ c = λ c i some. absurd (some≢none c (sym some ∙ is)) in
      let same = take-same (length lists) lists others replaced.leaves (λ i below within. replaced.same i within (has-count needed _ i _ cut (λ c. none c i) (reports.each i within))) in
      let equal : others ≡ lists = sym (take-all others) ∙ ap (λ n. take n others) replaced.leaves ∙ same ∙ take-all lists in
      ap (λ l. answer (joined l)) equal
  harmless-at recorded cut reports (Some c) is others replaced =
      let here : (d : ℕ) → cut ≡ Some d → c ≡ d = λ d some. let e : Some c ≡ Some d = sym is ∙ some in some-same c d e in
      let justified = reports.justified c is in
      let within : c < length lists = justified.0 in
      let sums = sum-counts counted lists (c + 1) (omega arith) in
      let same = take-same (c + 1) lists others replaced.leaves (λ i below inside. replaced.same i inside (has-count needed _ i _ cut (λ d some. let e = here d some in omega (arith, e)) (reports.each i inside))) in
      same-front needed counted answer law (c + 1) lists others same (subst (Reaches needed) sums justified.1)
    where
      some-same : (c d : ℕ) → Some c ≡ Some d → c ≡ d
      some-same c d e = cc

-- the entry of a run says so of its leaves
pub is-entry : {T A : Type 0} (needed : Option ℕ) (counted : T → Bool) (answer : List T → A) → KeepsEnough needed counted answer
    → (lists : List (List T)) (entry : Outcome) → Reports needed (length lists) (full_count counted lists) entry.leaves (count_of entry) (cut_of entry) → IsEntryOf needed counted answer lists entry
is-entry needed counted answer law lists entry reports = record {
  reports = reports;
  harmless = harmless-at needed counted answer law lists (count_of entry) entry.leaves (cut_of entry) reports (cut_of entry) refl;
}
