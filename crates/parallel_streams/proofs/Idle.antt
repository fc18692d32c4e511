-- A run over lists of which no item counts, told by a run that reads none.
use Rattle.std.specs.Prelude.{◌≡◌, ℕ, List, [], ◌∷◌, Option, None, Result, Ok, Err, IfOk, All, count_by, fold, length, slice_index_or, refl}
use Rattle.std.proofs.Common.{sym, ap, ◌∙◌, subst, append-nil, inl}
use Rattle.barriers.specs.Needs.{no_item}
use Rattle.leaf_board.specs.Closing.{Outcome, count_of, cut_of}
use Rattle.leaf_reading.specs.Fronts.{folding}
use Rattle.stealing_pool.specs.Spans.{full_count, joined}
use Rattle.stealing_pool.specs.Reports.{Reported, Reports}
use Rattle.parallel_streams.specs.Cuts.{cut_at, length-cut_at}
use Rattle.parallel_streams.specs.Reports.{IsRunOver}

none-count : {T : Type 0} (l : List T) → 0 ≡ count_by no_item l
none-count [] = refl
none-count (x ∷ l) = none-count l

idle-reports : {T : Type 0} (lists : List (List T)) (recorded : ℕ) (count : ℕ → Option ℕ) (cut : Option ℕ)
    → Reports None (length lists) (λ i. 0) recorded count cut → Reports None (length lists) (full_count no_item lists) recorded count cut
idle-reports lists recorded count cut told = record {
  all = told.all;
  each = λ i within. subst (λ n. Reported None n i (count i) cut) (none-count (slice_index_or lists i [])) (told.each i within);
  justified = λ c is. absurd (told.justified c is).1;
  cut_found = λ i n within is reached. absurd reached;
}

-- what was folded of the whole list, with the entry of a run that read none of its parts, is as the run over these parts leaves it
idle-run : {T C : Type 0} (is_value : T → Type 0) (empty : C) (add : C → T → C) (content : C) (lists : List (List T)) (whole front : List T) (ends : List ℕ) (entry : Outcome)
    → joined lists ≡ whole → front ≡ whole → lists ≡ cut_at 0 ends front → All is_value front × (content ≡ fold add empty front)
    → Reports None (length ends) (λ i. 0) entry.leaves (count_of entry) (cut_of entry)
    → IsRunOver (folding None no_item is_value empty add) content lists entry
idle-run is_value empty add content lists whole front ends entry joins is parts folded told =
    let leaves : length ends ≡ length lists = sym (ap length parts ∙ length-cut_at 0 ends front) in
    let Q : ℕ → Type 0 = λ n. Reports None n (λ i. 0) entry.leaves (count_of entry) (cut_of entry) in (
      (front, ([], joins ∙ sym is ∙ sym (append-nil front), inl refl), folded),
      idle-reports lists entry.leaves (count_of entry) (cut_of entry) (subst Q leaves told),
    )

-- the same of a call that may be refused memory
pub idle-run-ok : {T C A E : Type 0} (is_value : T → Type 0) (empty : C) (add : C → T → C) (content : A → C) (lists : List (List T)) (whole front : List T) (ends : List ℕ) (r : Result (A × Outcome) E)
    → joined lists ≡ whole → front ≡ whole → lists ≡ cut_at 0 ends front → IfOk r (λ x. All is_value front × (content x.0 ≡ fold add empty front))
    → IfOk r (λ x. Reports None (length ends) (λ i. 0) x.1.leaves (count_of x.1) (cut_of x.1))
    → IfOk r (λ x. IsRunOver (folding None no_item is_value empty add) (content x.0) lists x.1)
idle-run-ok is_value empty add content lists whole front ends (Ok x) joins is parts folded told =
    idle-run is_value empty add (content x.0) lists whole front ends x.1 joins is parts folded told
idle-run-ok is_value empty add content lists whole front ends (Err e) joins is parts folded told = tt

-- the same of lists that were folded leaf by leaf
pub listed-run-ok : {T C A E : Type 0} (is_value : T → Type 0) (empty : C) (add : C → T → C) (content : A → C) (lists : List (List T)) (r : Result (A × Outcome) E)
    → IfOk r (λ x. All is_value (joined lists) × (content x.0 ≡ fold add empty (joined lists)))
    → IfOk r (λ x. Reports None (length lists) (λ i. 0) x.1.leaves (count_of x.1) (cut_of x.1))
    → IfOk r (λ x. IsRunOver (folding None no_item is_value empty add) (content x.0) lists x.1)
listed-run-ok is_value empty add content lists (Ok x) folded told = (
  (joined lists, ([], sym (append-nil (joined lists)), inl refl), folded),
  idle-reports lists x.1.leaves (count_of x.1) (cut_of x.1) told,
)
listed-run-ok is_value empty add content lists (Err e) folded told = tt
