use Rattle.std.proofs.Common.{◌≡◌, ◌≤◌, List, subst, arith}
use Rattle.collectors.specs.Laws.{IsContainerOf}
use Rattle.placed_containers.proofs.Joined.{between-joined}
use Rattle.placed_containers.proofs.pieces.extend_piece.Goals as goal

pub returns-clause-part : goal.returns-clause-part
returns-clause-part g c = λ between n joins old next.
    let C = g.C.Collector in
    let it = c.args.collector.now in
    let piece = c.args.piece.now.places in
    let part = c.args.part.places in
    let meet : part.from ≡ piece.to = grind (arith) in
    let made = λ (l : List g.row.C-Item-Content.Denot) (acc : g.row.C-Acc.Denot). IsContainerOf g.C.Item.Value.is_value (C.content it) (C.empty it) (C.add it) l acc in
    let order : piece.to ≤ part.to = subst (λ p. p ≤ part.to) meet next.0 in
    let behind = subst (λ p. made (between p part.to) c.args.part.container) meet next.3 in
    let both = c.in_ok-combine_containers.ensures (between piece.from piece.to) (between piece.to part.to) old.3 behind in
    (omega (arith, old.0, order), next.1, old.2, between-joined between joins (λ l. made l c.combine_containers.new.left) piece.from piece.to part.to old.0 order both)
