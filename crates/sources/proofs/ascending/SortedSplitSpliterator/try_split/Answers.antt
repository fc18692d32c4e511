use Rattle.std.proofs.lemmas.Grind.{common_steps}
use Rattle.std.proofs.Common.{arith, length, ◌/◌}
use Rattle.std.specs.Ordering.{is_lt}
use Rattle.sources.proofs.AscendingParts.{ascend-front, ascend-rest}
use Rattle.sources.proofs.ascending.SortedSplitSpliterator.try_split.Goals as goal

pub invariant_of-self : goal.invariant_of-self
invariant_of-self g c =
    let s = c.args.self.now in
    let value = g.T.OrderedValue in
    let half = length s.items.now / 2 in
    let rest = c.split_at.result.1.now in
    record {
      ascending = ascend-rest (λ x y. is_lt (value.order x y)) g.T.Value.content half s.items.now rest c.split_at.ensures.back s.ascending;
    }

pub invariant_of-result : goal.invariant_of-result
invariant_of-result g c =
    let s = c.args.self.now in
    let value = g.T.OrderedValue in
    let half = length s.items.now / 2 in
    let front = c.split_at.result.0.now in
    record {
      ascending = ascend-front (λ x y. is_lt (value.order x y)) g.T.Value.content half s.items.now front c.split_at.ensures.front s.ascending;
    }

-- bounded: a wrong body would search to its limit
pub returns : goal.returns
returns g c = grind (arith, common_steps) steps 400000
