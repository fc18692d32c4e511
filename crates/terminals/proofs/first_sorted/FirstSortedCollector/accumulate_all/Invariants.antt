use Rattle.std.proofs.Common.{◌≡◌, fold, length, map}
use Rattle.collectors.specs.Grouping.{contents}
use Rattle.terminals.specs.Insertion.{first_sorted}
use Rattle.terminals.specs.FirstSorted.{add_keyed, key_below}
use Rattle.terminals.proofs.first_sorted.FirstSortedCollector.accumulate_all.Given as goal

-- those that are left, taken in, make of what is kept what all make of what was there
abbrev pub invariant-loop-key : goal.invariant-loop-key
invariant-loop-key g l =
    let order = g.K.Out.OrderedValue.order in
    let seen = contents g.K.Out.Value.content g.T.Value.content in
    let first = first_sorted (key_below order) l.fn.self.number in
    let taken = fold (add_keyed order (g.K.Mapping.image l.fn.self.key) l.fn.self.number) in
    taken (first (seen l.acc.pairs.items)) (map g.T.Value.content l.left) ≡ taken (first (seen l.fn.acc.pairs.items)) (map g.T.Value.content l.fn.items)

abbrev pub decreases-loop-key : goal.decreases-loop-key
decreases-loop-key g l = length l.left
