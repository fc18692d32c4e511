use Rattle.std.proofs.Common.{◌≡◌, ◌<◌, length, map, [], false, sym, ◌∙◌, arith}
use Rattle.std.specs.Prelude.{◌==◌}
use Rattle.std.proofs.lemmas.List.{length-map}
use Rattle.std.proofs.lemmas.Bool.Decides.{nat_tests}
use Rattle.placed_sources.proofs.StepLaws.{chunk-first}
use Rattle.placed_sources.proofs.chunks.ChunksSpliterator.try_advance.Goals as goal

pub returns-clause-ok : goal.returns-clause-ok
returns-clause-ok g c =
    let s = c.args.self.now in
    let room = c.next_block.new.room in
    let block = map g.S.Item.Value.content room.items in
    let rest = g.S.Spliterator.items c.next_block.new.self in
    let long : length block ≡ length room.items = length-map room.items g.S.Item.Value.content in
    let len = room.ok.0 in
    let empty : (room.len == 0) ≡ false = sym c.is_empty.ensures ∙ c.if-is_empty.false in
    let some : 0 < length room.items = grind (arith, nat_tests, empty, len) in
    let ended : length block < s.size → rest ≡ [] = λ short. c.in_ok-next_block.ensures.ended (omega arith) in
    chunk-first s.size (g.S.Spliterator.items s.source) block rest s.some c.in_ok-next_block.ensures.moved
    (omega (arith, c.in_ok-next_block.ensures.most)) ended (omega arith)
