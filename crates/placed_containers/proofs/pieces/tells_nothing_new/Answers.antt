use Rattle.std.proofs.Common.{◌≡◌, ◌-◌, length, inl, sym, eqb-true, arith}
use Rattle.placed_containers.specs.Ways.{begin_of, end_of}
use Rattle.placed_containers.proofs.Anys.{any-at}
use Rattle.placed_containers.proofs.pieces.tells_nothing_new.Goals as goal

pub returns-then-next-part-clause-again : goal.returns-then-next-part-clause-again
returns-then-next-part-clause-again g c = λ ends.
    let part = c.args.part.now in
    let next = c.in-Some.next.now in
    let rest = c.args.rest.now in
    let begin : begin_of next ≡ begin_of part = grind (arith) in
    inl (any-at (λ w. (begin_of w ≡ begin_of part) × (end_of w ≡ end_of part)) rest (length rest - 1) next (sym c.in-Some.ensures.value) (begin, eqb-true (end_of next) (end_of part) ends))
