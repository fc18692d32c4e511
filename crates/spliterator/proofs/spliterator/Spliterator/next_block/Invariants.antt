use Rattle.std.proofs.Common.{◌≡◌, ◌++◌, map, length}
use Rattle.spliterator.proofs.spliterator.Spliterator.next_block.Given as goal

abbrev pub invariant-loop-read : goal.invariant-loop-read
invariant-loop-read g l =
    (g.Self.Spliterator.items l.fn.self ≡ map g.Self.Item.Value.content l.room.items ++ g.Self.Spliterator.items l.self)
    × (length l.room.items ≡ l._read)
