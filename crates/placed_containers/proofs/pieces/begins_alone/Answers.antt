use Rattle.std.proofs.Common.{◌≢◌, ◌≤◌, ◌∷◌, [], All, not, sym, ap, ◌∙◌, subst, true≢false, eq-eqb}
use Rattle.std.proofs.lemmas.List.Elements.{All-head}
use Rattle.placed_containers.specs.Ways.{IsFalling, begin_of}
use Rattle.placed_containers.proofs.Popping.{all-apart, all-back, last-split}
use Rattle.placed_containers.proofs.pieces.begins_alone.Goals as goal

pub returns : goal.returns
returns g c = λ falls above alone.
    let rest = c.args.rest.now in
    let next = c.in-Some.next.now in
    let place = begin_of c.args.part.now in
    let split = last-split rest next (sym c.in-Some.ensures.value) in
    let low : place ≤ begin_of next = All-head (λ r. place ≤ begin_of r) next [] (all-back (λ r. place ≤ begin_of r) split.0 (next ∷ []) (subst (All (λ r. place ≤ begin_of r)) split.1 above)) in
    let apart : begin_of next ≢ place = λ e. true≢false (sym alone ∙ ap not (eq-eqb (begin_of next) place e)) in
    subst (All (λ r. begin_of r ≢ place)) (sym split.1) (all-apart split.0 next place (subst IsFalling split.1 falls) low apart)
