use Rattle.std.proofs.Common.{rules, of_calls}
use Rattle.std.proofs.lemmas.Fn.{always_returns_same}
use Rattle.std.proofs.lemmas.List.Sorted.{ranks_by}
use Rattle.std.proofs.lemmas.Result.{on_ok_weaker}
use Rattle.terminals.specs.Sorted.{IsSortedList, by_key}
use Rattle.terminals.proofs.Images.{of-whole}
use Rattle.terminals.proofs.ordering.sort_pairs.Goals as goal

pub returns-else-workers-eq1 : goal.returns-else-workers-eq1
returns-else-workers-eq1 g c total =
    let lent = c.as_mut_slice.ensures in
    let sort = c.par_sort_by.ensures in
    let weak = ranks_by total (λ p. p.0) in
    let compares = always_returns_same _ _ _ (λ a r f k. search (rules, of_calls)) in
    on_ok_weaker c.par_sort_by.result
    (λ up. of-whole (IsSortedList (by_key (λ p. p.0) g.K.Ord.cmp)) _ _ _ c.par_sort_by.new.s _ lent.value lent.len sort.len
    (record { permutation = sort.permutation; ascending = up _ weak compares; stable = sort.stable _ weak compares }))
    sort.sorted
