use Rattle.std.proofs.Common.{◌≡◌, ◌≤◌, ◌+◌, ◌++◌, ◌^◌}
use Rattle.parallel_streams.specs.Reading.{Each, SplitsFinely}
use Rattle.parallel_streams.specs.Sources.{items_behind, weight_behind}
use Rattle.parallel_streams.proofs.source.split_front.Given as goal

abbrev pub invariant-loop-front : goal.invariant-loop-front
invariant-loop-front g l = record {
  items : g.S.Spliterator.items l.front ++ items_behind g.S.Spliterator.items l.rest.items ≡ g.S.Spliterator.items l.fn.source ++ items_behind g.S.Spliterator.items l.fn.rest.items;
  weight : 2 ^ g.S.Spliterator.weight l.front + weight_behind g.S.Spliterator.weight l.rest.items ≤ 2 ^ g.S.Spliterator.weight l.fn.source + weight_behind g.S.Spliterator.weight l.fn.rest.items;
  fine : SplitsFinely g.S.Spliterator.estimate g.S.Spliterator.told g.S.Spliterator.split_gives l.fn.source → SplitsFinely g.S.Spliterator.estimate g.S.Spliterator.told g.S.Spliterator.split_gives l.front;
  parts : SplitsFinely g.S.Spliterator.estimate g.S.Spliterator.told g.S.Spliterator.split_gives l.fn.source → Each (SplitsFinely g.S.Spliterator.estimate g.S.Spliterator.told g.S.Spliterator.split_gives) l.fn.rest.items
      → Each (SplitsFinely g.S.Spliterator.estimate g.S.Spliterator.told g.S.Spliterator.split_gives) l.rest.items;
}

abbrev pub decreases-loop-front : goal.decreases-loop-front
decreases-loop-front g l = g.S.Spliterator.weight l.front
