use Rattle.std.proofs.Common.{◌≡◌, ◌<◌, length, map, [], arith}
use Rattle.std.proofs.lemmas.List.{length-map}
use Rattle.placed_sources.proofs.SlideLaws.{no-windows}
use Rattle.placed_sources.proofs.windows.WindowsSpliterator.try_advance.Goals as goal

pub returns-then-len-self-clause-ok : goal.returns-then-len-self-clause-ok
returns-then-len-self-clause-ok g c =
    let s = c.args.self.now in
    let room = c.next_block.new.room in
    let block = map g.S.Item.Value.content room.items in
    let rest = g.S.Spliterator.items c.next_block.new.self in
    let long : length block ≡ length room.items = length-map room.items g.S.Item.Value.content in
    let len = room.ok.0 in
    let short : length block < s.size = omega (arith, c.if-len-self.true, c.len.ensures, len, long) in
    let ended : length block < s.size → rest ≡ [] = λ h. c.in_ok-next_block.ensures.ended (omega (arith, long)) in
    let none = no-windows s.size (g.S.Spliterator.items s.source) block rest c.in_ok-next_block.ensures.moved short ended in
    (none, none)
