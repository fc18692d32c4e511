use Rattle.std.proofs.Common.{◌≡◌, ◌∷◌}
use Rattle.std.specs.Ordering.{is_lt}
use Rattle.sources.proofs.AscendingParts.{ascend-tail}
use Rattle.sources.proofs.ascending.SortedSplitSpliterator.try_advance.Goals as goal

pub invariant_of-self : goal.invariant_of-self
invariant_of-self g c =
    let s = c.args.self.now in
    let value = g.T.OrderedValue in
    let first = c.in-Some.first.now in
    let rest = c.in-Some.rest.now in
    let parts : s.items.now ≡ first ∷ rest = c.in-Some.ensures.cases.0 in
    record {
      ascending = ascend-tail (λ x y. is_lt (value.order x y)) g.T.Value.content s.items.now first rest parts s.ascending;
    }
