-- What a worker's loop keeps.
use Rattle.std.proofs.Common.{◌≡◌, ◌<◌, ◌++◌, ◌∷◌, ℕ, List, [], length, ap, sym, ◌∙◌, inl, inr, arith, length-append}
use Rattle.std.proofs.lemmas.Bool.{cases_eq}
use Rattle.std.proofs.lemmas.List.{get_or_append_left}
use Rattle.std.proofs.Math.Seq.{get_or-append_seam}
use Rattle.leaf_board.specs.Statuses.{Status, Given, Published, Skipped, Turns, SameFrom}
use Rattle.stealing_pool.specs.declared.worker.Ran.{Ran}
use Rattle.stealing_pool.specs.Shifts.{KeepsShift}

module _ {A : Type 0} (before : ℕ → Status) (ran : List (Ran A)) (kept : KeepsShift before ran) where
  -- the same knowledge
  pub shift_same : (after : ℕ → Status) → SameFrom before after → KeepsShift after ran
  shift_same after same j =
      ((λ given. (kept j).0 (sym (same j) ∙ given)), (λ count published. (kept j).1 count (sym (same j) ∙ published)))

  -- a leaf was given, and then skipped
  pub shift_skipped : (i : ℕ) (given after : ℕ → Status) → Turns before i Given given → Turns given i Skipped after → KeepsShift after ran
  shift_skipped i given after draw skip j =
      elim (cases_eq j i) [
        | inl here ↦ (
          (λ as_given. let e = skip.here in let f = as_given in let h = ap after here in cc),
          (λ count published. absurd (let e = skip.here in let f = published in let h = ap after here in cc)),
        )
        | inr other ↦
            (let was = skip.others j other ∙ draw.others j other in
            ((λ as_given. (kept j).0 (sym was ∙ as_given)), (λ count published. (kept j).1 count (sym was ∙ published))))
      ]

  -- a leaf was given, run and published
  pub shift_published : (i : ℕ) (r : Ran A) (ran' : List (Ran A)) (given after : ℕ → Status) → Turns before i Given given → Turns given i (Published r.portion.count) after → r.leaf ≡ i
      → ran' ≡ ran ++ r ∷ [] → KeepsShift after ran'
  shift_published i r ran' given after draw publish place more j =
      elim (cases_eq j i) [
        | inl here ↦ (
          (λ as_given. let e = publish.here in let f = as_given in let h = ap after here in cc),
          (λ count published. (
            length ran,
            rw more (rw length-append (omega arith)),
            (λ d.
                let same : r.portion.count ≡ count = (let e = publish.here in let f = published in let h = ap after here in cc) in
                rw more (rw get_or-append_seam (place ∙ sym here, same))),
          )),
        )
        | inr other ↦
            (let was = publish.others j other ∙ draw.others j other in (
              (λ as_given. (kept j).0 (sym was ∙ as_given)),
              (λ count published.
                  let old = (kept j).1 count (sym was ∙ published) in (
                    old.0,
                    rw more (rw length-append (let h : old.0 < length ran = old.1 in omega arith)),
                    (λ d. rw (more, get_or_append_left ran (r ∷ []) d old.0 old.1) (old.2 d)),
                  )),
            ))
      ]
