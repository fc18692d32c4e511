use Rattle.std.proofs.Common.{◌≡◌, ◌<◌, ◌≤◌, rules, sym, subst}
use Rattle.std.specs.Prelude.{string_bytes}
use Rattle.std.proofs.lemmas.List.Elements.{All-weaker}
use Rattle.std.proofs.lemmas.Result.{IfOk-weaker}
use Rattle.collectors.specs.Laws.{IsContainerOf}
use Rattle.placed_containers.specs.Parts.{IsPart, Told}
use Rattle.placed_containers.specs.Ways.{HasPart, begin_of, end_of}
use Rattle.placed_containers.proofs.Longest.{longest-same}
use Rattle.placed_containers.proofs.Telling.{told-has, has-told, zip-some}
use Rattle.placed_containers.proofs.job.Job.combine_parts.Goals as goal

pub returns-in_err-parts-clause-known : goal.returns-in_err-parts-clause-known
returns-in_err-parts-clause-known g c = λ between n joins all. let memory = c.in_err-parts.ensures.known between n all in search rules

pub returns-clause-joined : goal.returns-clause-joined
returns-clause-joined g c = λ between n joins all. c.write_parts.ensures.lines between n (c.in_ok-pieces.ensures.parts between n joins (c.in_ok-parts.ensures.parts between n all))

pub returns-clause-known : goal.returns-clause-known
returns-clause-known g c = λ between n joins all. c.write_parts.ensures.known between n (c.in_ok-pieces.ensures.parts between n joins (c.in_ok-parts.ensures.parts between n all))

pub returns-clause-longest : goal.returns-clause-longest
returns-clause-longest g c = λ between n joins all p q long.
    let C = g.C.Collector in
    let it = c.args.self.now.collector.now in
    let is_part = IsPart (IsContainerOf g.C.Item.Value.is_value (C.content it) (C.empty it) (C.add it)) between n in
    let name = c.args.self.now.name.now in
    let lines = c.args.lines.now in
    let parts = c.in_ok-parts.parts.items in
    let pieces = c.in_ok-pieces.pieces.items in
    let are = c.in_ok-parts.ensures.parts between n all in
    let made = c.in_ok-pieces.ensures.parts between n joins are in
    let zip = c.in_ok-parts.ensures.places in
    let read = longest-same {told = Told (λ line. line.now) name n lines} {other = HasPart parts}
    (told-has (λ line. line.now) name n parts lines zip) (has-told (λ line. line.now) name n parts lines zip (All-weaker is_part (λ part. part.places.of ≡ n) (λ part is. is.2) parts are)) p q long in
    let joined = c.in_ok-pieces.ensures.longest (All-weaker is_part (λ part. begin_of part ≤ end_of part) (λ part is. is.0) parts are) p q read in
    let of = All-weaker is_part (λ part. part.places.of ≡ n) (λ part is. is.2) pieces made in
    IfOk-weaker c.write_parts.result _ _
    (λ texts tell. longest-same {told = HasPart pieces} {other = Told string_bytes name n texts.items} (has-told string_bytes name n pieces texts.items tell of) (told-has string_bytes name n pieces texts.items tell) p q joined)
    c.write_parts.ensures.places

pub returns-clause-some : goal.returns-clause-some
returns-clause-some g c = λ some.
    let parts = c.in_ok-parts.parts.items in
    let pieces = c.in_ok-pieces.pieces.items in
    let led = c.in_ok-pieces.ensures.some (subst (λ k. 0 < k) (sym (zip-some _ parts c.args.lines.now c.in_ok-parts.ensures.places)) some) in
    IfOk-weaker c.write_parts.result _ _ (λ texts tell. subst (λ k. 0 < k) (zip-some _ pieces texts.items tell) led) c.write_parts.ensures.places
