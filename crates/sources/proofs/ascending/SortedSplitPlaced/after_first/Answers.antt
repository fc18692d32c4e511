use Rattle.std.proofs.Common.{map, ap, sym, ◌∙◌}
use Rattle.std.specs.Ordering.{is_lt}
use Rattle.std.proofs.lemmas.List.{drop-map}
use Rattle.sources.proofs.AscendingParts.{ascend-rest}
use Rattle.sources.proofs.ascending.SortedSplitPlaced.after_first.Goals as goal

pub invariant_of-result : goal.invariant_of-result
invariant_of-result g c =
    let s = c.args.self in
    let value = g.T.OrderedValue in
    record {
      ascending = ascend-rest (λ x y. is_lt (value.order x y)) g.T.Value.content c.args.number s.items.now c.rest_of.result.now c.rest_of.ensures s.ascending;
    }

pub returns : goal.returns
returns g c = ap (map g.T.Value.content) c.rest_of.ensures ∙ sym (drop-map g.T.Value.content c.args.number c.args.self.items.now)
