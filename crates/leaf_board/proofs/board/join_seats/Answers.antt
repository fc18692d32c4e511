use Rattle.std.proofs.Common.{ℕ, ◌≡◌, ◌+◌, ◌⊎◌, [], ◌∷◌, ◌++◌, length, Some, refl, inl, inr, ⊎_elim, sym, ap, ◌∙◌, subst, arith}
use Rattle.std.specs.Prelude.{slice_get}
use mathlib.Core.Option.{some}
use lib.ListN.{get_elem?}
use Rattle.leaf_board.specs.Knowledge.{entry}
use Rattle.leaf_board.specs.Plays.{Sat}
use Rattle.leaf_board.specs.Seats.{Holder}
use Rattle.leaf_board.specs.Closing.{In}
use Rattle.leaf_board.proofs.Ends.{joins, front_at, back_at}
use Rattle.leaf_board.proofs.Gathering.{in_front, in_last, snoc_get, in_none, length_with, one_shown, seat_shows}
use Rattle.leaf_board.proofs.board.join_seats.Goals as goal

pub loop-other-init : goal.loop-other-init
loop-other-init g c = record {
  own = ap (λ (h : Holder). h.board) c.first.view_is ∙ c.requires.first;
  plain = c.requires.others;
  many = (let one = one_shown c.first.inside.seat.me c.first.inside.number c.first.invariant.0 in let all = length_with c.args.others.items (c.args.first ∷ []) refl in omega arith);
  shows = λ j s is.
      ⊎_elim (λ r. inl r)
      (λ t. inr (0, (let all = length_with c.args.others.items (c.args.first ∷ []) refl in omega (arith, t.0)), seat_shows c.first.inside.seat.me c.first.inside.seat.table_id c.first.inside.number s c.first.invariant.0 (c.first.view_is ∙ t.1)))
      (snoc_get c.args.others.items c.args.first j s is);
}

pub join_seat-requires : goal.join_seat-requires
join_seat-requires g c =
    let there : In c.loop-other.others.items c.in-Some.other = subst (λ l. In l c.in-Some.other) (sym c.in-Some.ensures.items) (in_last c.pop.new.self.items c.in-Some.other) in (
      c.loop-other.invariant.own,
      ap (λ (h : Holder). h.board) c.other.view_is ∙ c.loop-other.invariant.plain c.in-Some.other there,
      ap (λ (m : Sat). m.1) c.other.invariant.0,
      c.requires.table,
      joins g.C.Case.case c.loop-other.joined.id c.other.inside.seat.id c.loop-other.joined.me.0 c.other.inside.seat.me.0,
    )

pub loop-other-preserved : goal.loop-other-preserved
loop-other-preserved g c =
    let items = c.in-Some.ensures.items in
    let fewer : length c.loop-other.others.items ≡ length c.pop.new.self.items + 1 = ap length items ∙ length_with c.pop.new.self.items (c.in-Some.other ∷ []) refl in
    let one = one_shown c.other.inside.seat.me c.other.inside.number c.other.invariant.0 in
    let joined = c.join_seat.ensures.2 in record {
      own = c.join_seat.ensures.0 ∙ c.loop-other.invariant.own;
      plain = λ s is. c.loop-other.invariant.plain s (subst (λ l. In l s) (sym items) (in_front c.pop.new.self.items c.in-Some.other s is));
      many = (let j : length c.join_seat.new.seat.me.0.entries ≡ length c.loop-other.joined.me.0.entries + 1 = ap (λ (m : Sat). length m.0.entries) joined ∙ length_with c.loop-other.joined.me.0.entries c.other.inside.seat.me.0.entries one in let old = c.loop-other.invariant.many in omega arith);
      shows = λ j s is.
          subst (λ (m : Sat). (slice_get c.pop.new.self.items j ≡ Some s) ⊎ ((i : ℕ) × (i + j + 1 ≡ length (c.args.others.items ++ c.args.first ∷ [])) × (get_elem? m.0.entries i ≡ some (entry s.number s.knows)))) (sym joined)
          (⊎_elim
          (λ there.
          ⊎_elim (λ r. inl r)
          (λ t. inr (
            length c.loop-other.joined.me.0.entries + 0,
            (let old = c.loop-other.invariant.many in omega (arith, t.0)),
            back_at c.loop-other.joined.me.0.entries c.other.inside.seat.me.0.entries 0 (entry s.number s.knows) (seat_shows c.other.inside.seat.me c.other.inside.seat.table_id c.other.inside.number s c.other.invariant.0 (c.other.view_is ∙ t.1)),
          ))
          (snoc_get c.pop.new.self.items c.in-Some.other j s (subst (λ l. slice_get l j ≡ Some s) items there)))
          (λ t. inr (t.0, t.1, front_at c.loop-other.joined.me.0.entries c.other.inside.seat.me.0.entries t.0 (entry s.number s.knows) t.2))
          (c.loop-other.invariant.shows j s is));
    }

pub returns-clause-shows : goal.returns-clause-shows
returns-clause-shows g c j s is = ⊎_elim (λ there. absurd (in_none c.loop-other.others.items s (let h = c.in_default.ensures.cases in let o = c.loop-other.others.ok in omega arith) (j, there))) (λ t. t) (c.loop-other.invariant.shows j s is)
