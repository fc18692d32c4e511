use Rattle.std.specs.Prelude.{slice_index}
use Rattle.std.proofs.lemmas.List.{get_or-set_same}
use Rattle.std.proofs.Common.{◌-◌, ◌+◌, ◌*◌, ◌≡◌, ◌<◌, length, arith, ap, sym, subst, length-set, ◌∙◌}
use Rattle.leaf_board.specs.Case.{IsLawful}
use Rattle.leaf_board.specs.Knowledge.{Knowledge, IsHeld, after_publish}
use Rattle.leaf_board.specs.Rule.{leaf_place}
use Rattle.leaf_board.specs.Seats.{Holder, knowledge_in}
use Rattle.leaf_board.proofs.Steps.{held_there}
use Rattle.leaf_board.proofs.Calls.{in_use, publish_step, step_knows, leaf_of_place}
use Rattle.leaf_board.proofs.board.Board.publish.Goals as goal

pub overflow_add-place-2 : goal.overflow_add-place-2
overflow_add-place-2 g c =
    let held = subst (λ (h : Holder). IsHeld h.knows c.pass.inside.leaf) (sym c.seat.view_is) (subst (λ n. IsHeld c.args.seat.now.knows n) (sym c.pass.view_is) c.requires.held) in
    let at = held_there (knowledge_in c.seat.inside.seat.me.0) c.pass.inside.leaf held in
    omega arith

pub swap-requires : goal.swap-requires
swap-requires g c =
    let held = subst (λ (h : Holder). IsHeld h.knows c.pass.inside.leaf) (sym c.seat.view_is) (subst (λ n. IsHeld c.args.seat.now.knows n) (sym c.pass.view_is) c.requires.held) in
    let at = held_there (knowledge_in c.seat.inside.seat.me.0) c.pass.inside.leaf held in (
      ap (λ (h : Holder). h.board) c.seat.view_is ∙ c.requires.own ∙ sym c.self.view_is,
      omega arith,
      publish_step g.C.Case.case _ _ _ _ c.seat.invariant.0 c.self.inside.seats c.pass.inside.leaf c.args.count c.self.invariant.2 held (subst (λ n. IsLawful g.C.Case.case.need (g.C.Case.case.full n) c.args.count) (sym c.pass.view_is) c.requires.count.0),
    )

pub invariant_of-seat : goal.invariant_of-seat
invariant_of-seat g c =
    in_use g.C.Case.case _ _ _ _ _ c.seat.invariant (c.swap.ensures.2 _ _ c.seat.invariant.0).0 (sym c.seat.invariant.2) (length-set (knowledge_in c.seat.inside.seat.me.0).leaves _ _ ∙ c.seat.invariant.4) c.seat.invariant.5 (length-set (knowledge_in c.seat.inside.seat.me.0).counts _ _ ∙ c.seat.invariant.6)

pub returns-clause-knows : goal.returns-clause-knows
returns-clause-knows g c =
    step_knows (λ k. after_publish k (8 * (1 + c.self.inside.seats) + c.pass.inside.leaf - leaf_place g.C.Case.case 0) (c.args.count + 1 - 1)) c.seat.inside.seat.me _ c.seat.inside.number _ (ap (λ (h : Holder). h.knows) c.seat.view_is) (c.swap.ensures.2 _ _ c.seat.invariant.0).0
    ∙ (let e = leaf_of_place g.C.Case.case c.self.inside.seats c.pass.inside.leaf c.self.invariant.2 ∙ c.pass.view_is in let d : c.args.count + 1 - 1 ≡ c.args.count = omega arith in λ i. after_publish c.args.seat.now.knows (e i) (d i))

pub returns-clause-counts : goal.returns-clause-counts
returns-clause-counts g c =
    let held = subst (λ (h : Holder). IsHeld h.knows c.pass.inside.leaf) (sym c.seat.view_is) (subst (λ n. IsHeld c.args.seat.now.knows n) (sym c.pass.view_is) c.requires.held) in
    let at = held_there (knowledge_in c.seat.inside.seat.me.0) c.pass.inside.leaf held in
    let there : c.pass.inside.leaf < length (knowledge_in c.seat.inside.seat.me.0).counts = (let a = c.seat.invariant.4 in let b = c.seat.invariant.6 in omega arith) in
    let known : c.args.pass < length c.args.seat.now.knows.counts = subst (λ n. n < length c.args.seat.now.knows.counts) c.pass.view_is (subst (λ (h : Holder). c.pass.inside.leaf < length h.knows.counts) c.seat.view_is there) in
    ap (λ (k : Knowledge). slice_index k.counts c.args.pass) (returns-clause-knows g c) ∙ get_or-set_same c.args.seat.now.knows.counts c.args.pass (c.args.count + 1) 0 known
