use Rattle.std.proofs.Common.{◌≡◌, ◌++◌, length, map}
use Rattle.sources.proofs.concat.fill.Given as goal

abbrev pub invariant-loop-read : goal.invariant-loop-read
invariant-loop-read g l =
    (map g.S.Item.Value.content l.fn.room.items ++ g.S.Spliterator.items l.fn.source ≡ map g.S.Item.Value.content l.room.items ++ g.S.Spliterator.items l.source)
    × (length l.room.items ≡ l._read)
