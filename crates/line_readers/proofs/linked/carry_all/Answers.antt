use Rattle.std.proofs.Common.{map}
use Rattle.line_readers.proofs.Linking.{if-goes-on}
use Rattle.line_readers.proofs.linked.carry_all.Goals as goal

pub returns : goal.returns
returns g c =
    let content = g.T.Value.content in
    let B = g.B.Barrier in
    let barrier = c.args.barrier.now in
    if-goes-on (B.needed_behind barrier c.args.state.now) (g.B.Demand.counted barrier) (B.value_behind barrier c.args.state.now) (B.value_behind barrier c.carry.new.state)
    (g.met.B.Barrier.enough_behind barrier c.args.state.now) (map content c.args.items.items) (map content c.cut_behind-is_cut.new.items.items) (λ kept. map content kept.items)
    c.cut_behind-is_cut.ensures.front c.carry.result c.carry.ensures.goes_on
