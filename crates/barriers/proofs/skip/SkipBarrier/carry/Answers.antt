use Rattle.std.proofs.Common.{map, arith}
use Rattle.std.proofs.lemmas.List.{length-map}
use Rattle.barriers.proofs.GoesOn.{skip-goes_on}
use Rattle.barriers.proofs.skip.SkipBarrier.carry.Goals as goal

pub returns-clause-goes_on : goal.returns-clause-goes_on
returns-clause-goes_on g c = λ more.
    let content = g.T.Value.content in
    let items = c.args.items.items in
    skip-goes_on c.args.state.now.number c.new.result.number (map content items) (map content c.in_ok-kept.kept.items) more c.in_ok-kept.ensures.value
    (let same = length-map items content in omega (arith, same, c.new.ensures, c.saturating_sub.ensures, c.len-number.ensures))
