use Rattle.std.proofs.Common.{◌≡◌, Some, option_map, map, fold, ap, sym, ◌∙◌}
use Rattle.collectors.specs.Reductions.{reduce_add, reduced_from}
use Rattle.collectors.proofs.reducing.ReducingCollector.accumulate_all.Goals as goal

pub returns : goal.returns
returns g c =
    let content = g.T.Value.content in
    let join = g.O.Operator.join c.args.self.now.operator in
    let add = reduce_add join in
    let before = option_map content c.args.acc.now in
    let first = content c.in-Some.first.now in
    let rest = map content c.in-Some.rest.now in
    let start = content c.in_ok-joined.joined in
    let started : Some start ≡ add before first = c.in_ok-joined.ensures ∙ ap (λ o. add (option_map content o) first) c.take.ensures.value in
    ap Some c.in_ok-join_all.ensures ∙ sym (reduced_from join start rest) ∙ ap (λ o. fold add o rest) started
    ∙ ap (λ l. fold add before (map content l)) (sym c.in-Some.ensures.cases.0)
