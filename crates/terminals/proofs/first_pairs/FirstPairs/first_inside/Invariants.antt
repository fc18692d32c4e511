use Rattle.std.proofs.Common.{◌≡◌, ◌≤◌, fold, length, map}
use Rattle.collectors.specs.Grouping.{contents}
use Rattle.terminals.specs.Insertion.{first_sorted}
use Rattle.terminals.specs.FirstSorted.{add_keyed, key_below}
use Rattle.terminals.proofs.first_pairs.FirstPairs.first_inside.Given as goal

-- those that are left make of the first ones what all make
abbrev pub invariant-loop-item : goal.invariant-loop-item
invariant-loop-item g l =
    let first = first_sorted (key_below g.J.OrderedValue.order) l.number (contents g.J.Value.content g.T.Value.content l.self.pairs.items) in
    let taken = fold (add_keyed g.J.OrderedValue.order (g.K.Mapping.image l.key) l.number) first in
    (taken (map g.T.Value.content l.items) ≡ taken (map g.T.Value.content l.left)) × (length l.left ≤ length l.items)

abbrev pub decreases-loop-item : goal.decreases-loop-item
decreases-loop-item g l = length l.left
