use Rattle.std.proofs.Common.{◌≡◌, ◌<◌, ◌≤◌, ◌∷◌, [], ◌++◌, All, IfSome, if◌then◌else◌, sym, ap, ◌∙◌, subst, arith, append_assoc, eq-eqb}
use Rattle.std.specs.Option.{option_to_list}
use Rattle.std.proofs.lemmas.List.Elements.{All-push}
use Rattle.collectors.specs.Laws.{IsContainerOf}
use Rattle.placed_containers.specs.Parts.{IsPart}
use Rattle.placed_containers.specs.Ways.{HasPart, IsLongestWay, begin_of, end_of}
use Rattle.placed_containers.proofs.Meeting.{longest-met, ended-push}
use Rattle.placed_containers.proofs.pieces.take_part.Goals as goal

pub returns-in_default-clause-longest : goal.returns-in_default-clause-longest
returns-in_default-clause-longest g c = λ long length rest later within alone p q h.
    subst (λ o. IsLongestWay (HasPart (c.args.pieces.done.items ++ (option_to_list o ++ (c.args.part ∷ rest)))) p q) c.in_default.is h

pub returns-then-end-begin-clause-parts : goal.returns-then-end-begin-clause-parts
returns-then-end-begin-clause-parts g c = λ between n joins all part.
    let C = g.C.Collector in
    let it = c.args.collector.now in
    let is_part = IsPart (IsContainerOf g.C.Item.Value.is_value (C.content it) (C.empty it) (C.add it)) between n in
    (all.0, c.in_ok-extend_piece.ensures.part between n joins (subst (λ o. IfSome o is_part) c.in-Some.is all.1) part)

pub returns-then-end-begin-clause-longest : goal.returns-then-end-begin-clause-longest
returns-then-end-begin-clause-longest g c = λ long length rest later within alone p q h.
    let pieces = c.args.pieces in
    let done = pieces.done.items in
    let y = c.in-Some.last in
    let x = c.args.part in
    let z = c.extend_piece.new.piece in
    let below : pieces.end < begin_of x = grind (arith) in
    let meet : end_of y ≡ begin_of x = grind (arith) in
    let first = subst (λ o. IfSome o (λ part. begin_of part < end_of part)) c.in-Some.is long.1 in
    let ends : end_of z ≡ end_of x = c.in_ok-extend_piece.ensures.end ∙ ap (λ b. if b then end_of x else end_of y) (eq-eqb (end_of y) (begin_of x) meet) in
    let before = subst (λ o. IsLongestWay (HasPart (done ++ (option_to_list o ++ (x ∷ rest)))) p q) c.in-Some.is h in
    longest-met done y x z rest pieces.end long.0 below first meet length later within (alone c.if-begins_alone.true) c.in_ok-extend_piece.ensures.begin ends p q before

pub returns-clause-parts : goal.returns-clause-parts
returns-clause-parts g c = λ between n joins all part.
    let C = g.C.Collector in
    let it = c.args.collector.now in
    let is_part = IsPart (IsContainerOf g.C.Item.Value.is_value (C.content it) (C.empty it) (C.add it)) between n in
    (subst (All is_part) (sym c.in_ok-push.ensures.items) (All-push is_part c.args.pieces.done.items c.in-Some.last all.0 (subst (λ o. IfSome o is_part) c.in-Some.is all.1)), part)

pub returns-clause-length : goal.returns-clause-length
returns-clause-length g c = λ long length.
    let pieces = c.args.pieces in
    let last = c.in-Some.last in
    let is = c.max-end.ensures in
    let up : pieces.end ≤ c.max-end.result = omega (arith, is) in
    let on : end_of last ≤ c.max-end.result = omega (arith, is) in
    let first = subst (λ o. IfSome o (λ part. begin_of part < end_of part)) c.in-Some.is long.1 in
    (ended-push pieces.done.items c.push.new.self.items last pieces.end c.max-end.result c.in_ok-push.ensures.items up on first long.0, length)

pub returns-clause-longest : goal.returns-clause-longest
returns-clause-longest g c = λ long length rest later within alone p q h.
    let done = c.args.pieces.done.items in
    let last = c.in-Some.last in
    let x = c.args.part in
    let before = subst (λ o. IsLongestWay (HasPart (done ++ (option_to_list o ++ (x ∷ rest)))) p q) c.in-Some.is h in
    subst (λ l. IsLongestWay (HasPart (l ++ (x ∷ rest))) p q) (sym c.in_ok-push.ensures.items)
    (subst (λ l. IsLongestWay (HasPart l) p q) (sym (append_assoc done (last ∷ []) (x ∷ rest))) before)
