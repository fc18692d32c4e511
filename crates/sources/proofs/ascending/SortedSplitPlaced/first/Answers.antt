use Rattle.std.proofs.Common.{map, ap, sym, ◌∙◌}
use Rattle.std.specs.Ordering.{is_lt}
use Rattle.std.proofs.lemmas.List.{take-map}
use Rattle.sources.proofs.AscendingParts.{ascend-front}
use Rattle.sources.proofs.ascending.SortedSplitPlaced.first.Goals as goal

pub invariant_of-result : goal.invariant_of-result
invariant_of-result g c =
    let s = c.args.self in
    let value = g.T.OrderedValue in
    record {
      ascending = ascend-front (λ x y. is_lt (value.order x y)) g.T.Value.content c.args.most s.items.now c.front_of.result.now c.front_of.ensures s.ascending;
    }

pub returns : goal.returns
returns g c = ap (map g.T.Value.content) c.front_of.ensures ∙ sym (take-map g.T.Value.content c.args.most c.args.self.items.now)
