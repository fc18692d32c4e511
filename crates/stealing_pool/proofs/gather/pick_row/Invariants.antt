use Rattle.std.proofs.Common.{◌≡◌, ◌≤◌, length, drop}
use Rattle.stealing_pool.proofs.Picked.{count_in, IsPicked}
use Rattle.stealing_pool.proofs.gather.pick_row.Given as goal

abbrev pub invariant-loop-place : goal.invariant-loop-place
invariant-loop-place g l =
    (goal.iterator-loop-place g).can_next l.place-iterator
    × (goal.iterator-loop-place g).is_finite l.place-iterator
    × (l.place-iterator.rest.items ≡ drop (length l.row.items) l.fn.places.items)
    × (l.place-iterator.rest.len ≡ length l.place-iterator.rest.items)
    × IsPicked (g.J.LeafJob.work l.job) (count_in l.fn.places.items) l.row.items l.total
    × (length l.row.items ≤ length l.fn.places.items)
