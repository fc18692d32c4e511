use Rattle.std.proofs.Common.{◌<◌, rules, sym, subst}
use Rattle.placed_containers.specs.Parts.{IsForMore, Told}
use Rattle.placed_containers.specs.Ways.{HasPart}
use Rattle.placed_containers.proofs.Longest.{way-to}
use Rattle.placed_containers.proofs.Telling.{told-has, zip-some}
use Rattle.placed_containers.proofs.job.Job.finish_parts.Goals as goal

pub returns-clause-result : goal.returns-clause-result
returns-clause-result g c = λ between n joins all. c.finish_whole.ensures.result between n joins (c.in_ok-parts.ensures.parts between n all)

pub returns-in_err-parts-clause-known : goal.returns-in_err-parts-clause-known
returns-in_err-parts-clause-known g c = λ between n all.
    let more = subst IsForMore (sym (c.in_err-parts.ensures.known between n all)) tt in
    search rules

pub returns-in_err-parts-clause-complete : goal.returns-in_err-parts-clause-complete
returns-in_err-parts-clause-complete g c = λ between n all some stops way. let memory = c.in_err-parts.ensures.known between n all in search rules

pub returns-clause-complete : goal.returns-clause-complete
returns-clause-complete g c = λ between n all some stops way.
    let name = c.args.self.now.name.now in
    let lines = c.args.lines.now in
    let parts = c.in_ok-parts.parts.items in
    let led = way-to {told = Told (λ line. line.now) name n lines} {other = HasPart parts} (told-has (λ line. line.now) name n parts lines c.in_ok-parts.ensures.places) 0 stops n way in
    c.finish_whole.ensures.complete between n (c.in_ok-parts.ensures.parts between n all) (subst (λ k. 0 < k) (sym (zip-some _ parts lines c.in_ok-parts.ensures.places)) some) stops led
