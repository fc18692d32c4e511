use Rattle.std.proofs.Common.{rules, of_calls}
use Rattle.std.proofs.lemmas.Fn.{always_returns_same}
use Rattle.std.proofs.lemmas.List.Sorted.{ranks_by}
use Rattle.std.proofs.lemmas.Result.{on_ok_weaker}
use Rattle.terminals.proofs.ordering.sort_pairs_here.Goals as goal

pub returns : goal.returns
returns g c total =
    let sort = c.sort_by.ensures in
    let weak = ranks_by total (λ p. p.0) in
    let compares = always_returns_same _ _ _ (λ a r f k. search (rules, of_calls)) in
    on_ok_weaker c.sort_by.result (λ up. record { permutation = sort.permutation; ascending = up _ weak compares; stable = sort.stable _ weak compares }) sort.sorted
