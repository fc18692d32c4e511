use Rattle.std.proofs.Common.{map, arith}
use Rattle.std.proofs.lemmas.List.{length-map}
use Rattle.barriers.proofs.GoesOn.{limit-goes_on, limit-lessened}
use Rattle.barriers.proofs.limit.LimitBarrier.carry.Goals as goal

pub returns-clause-goes_on : goal.returns-clause-goes_on
returns-clause-goes_on g c = λ more.
    let content = g.T.Value.content in
    let kept = c.in_ok-kept.kept.items in
    limit-goes_on c.args.state.now.most c.new.result.most (map content c.args.items.items) (map content kept) more c.in_ok-kept.ensures.value
    (let same = length-map kept content in omega (arith, same, c.new.ensures, c.saturating_sub.ensures, c.len.ensures))

pub returns-clause-lessened : goal.returns-clause-lessened
returns-clause-lessened g c =
    let content = g.T.Value.content in
    let kept = c.in_ok-kept.kept.items in
    limit-lessened c.args.state.now.most c.new.result.most (map content c.args.items.items) (map content kept) c.in_ok-kept.ensures.value
    (let same = length-map kept content in omega (arith, same, c.new.ensures, c.saturating_sub.ensures, c.len.ensures))
