use Rattle.std.proofs.Common.{arith}
use Rattle.collectors.proofs.Folded.{all-next, all-whole}
use Rattle.collectors.proofs.strands.are_values.Goals as goal

pub loop-item-preserved : goal.loop-item-preserved
loop-item-preserved g c =
    all-next g.T.Value.content g.T.Value.is_value c.args.items.now c.loop-item.item-index c.item-item.result c.loop-item-test.true c.item-item.is
    c.loop-item.invariant c.is_value-value.ensures.value

pub returns : goal.returns
returns g c =
    all-whole g.T.Value.content g.T.Value.is_value c.args.items.now c.loop-item.item-index (omega (arith, c.loop-item-test.false)) c.loop-item.invariant
