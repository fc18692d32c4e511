use Rattle.std.proofs.Common.{◌≡◌, ◌<◌, ◌∙◌, ◌++◌, ◌∷◌, ℕ, [], ap, length, map, arith, sym, subst, false, append_assoc}
use Rattle.std.specs.Prelude.{All}
use Rattle.std.proofs.lemmas.List.Elements.{All-same, All-head, All-tail, All-cons}
use Rattle.stealing_pool.specs.declared.worker.Shift.{Shift}
use Rattle.stealing_pool.specs.Gathers.{place_shifts}
use Rattle.stealing_pool.proofs.Places.{length-put_in}
use Rattle.stealing_pool.proofs.gather.sort_shifts.Goals as goal

pub put_all-requires : goal.put_all-requires
put_all-requires g c =
    let P : Shift g.row.T.Denot g.row.K.Denot → Type 0 = λ s. All (λ r. r.leaf < length c.loop-shift.places.items) s.ran.items in
    All-head P c.in-Some.shift c.next.new.self.rest.items (All-same P _ _ (sym c.in-Some.ensures.steps.0) c.loop-shift.invariant.5)

pub loop-shift-preserved : goal.loop-shift-preserved
loop-shift-preserved g c =
    let inv = c.loop-shift.invariant in
    let is = c.in-Some.ensures.steps in
    let shift = c.in-Some.shift in
    let rest = c.next.new.self.rest.items in
    let put = c.put_all.ensures in
    let sizes = ap length is.0 in
    let P : Shift g.row.T.Denot g.row.K.Denot → Type 0 = λ s. All (λ r. r.leaf < length c.loop-shift.places.items) s.ran.items in
    let Q : Shift g.row.T.Denot g.row.K.Denot → Type 0 = λ s. s.refused ≡ false in
    let R : ℕ → Type 0 = λ n. All (λ s. All (λ r. r.leaf < n) s.ran.items) rest in
    let same : length c.put_all.new.places.items ≡ length c.loop-shift.places.items = ap length put ∙ length-put_in c.loop-shift.places.items shift.ran.items in (
      tt,
      tt,
      ap (λ xs. xs ++ map (λ s. s.seat) rest) c.in_ok-push.ensures.items ∙ (append_assoc c.loop-shift.seats.items (shift.seat ∷ []) (map (λ s. s.seat) rest) ∙ (ap (λ ss. c.loop-shift.seats.items ++ map (λ s. s.seat) ss) (sym is.0) ∙ inv.2)),
      ap (λ ps. place_shifts ps rest) put ∙ (ap (place_shifts c.loop-shift.places.items) (sym is.0) ∙ inv.3),
      omega (arith, is.1, inv.4),
      subst R (sym same) (All-tail P shift rest (All-same P _ _ (sym is.0) inv.5)),
      λ others. inv.6 (All-same Q _ _ is.0 (All-cons Q shift rest c.if-refused.false others)),
    )

pub returns-clause-served : goal.returns-clause-served
returns-clause-served g c = c.loop-shift.invariant.6 (λ k d within. absurd (let none = c.in-None.ensures.steps.0 in let sizes = c.loop-shift.invariant.4 in omega arith))
