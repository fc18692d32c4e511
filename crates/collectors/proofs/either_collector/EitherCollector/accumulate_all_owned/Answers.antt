use Rattle.std.proofs.Common.{map}
use Rattle.std.proofs.lemmas.Result.{on_ok_weaker}
use Rattle.collectors.proofs.EitherBlocks.{takes-left, takes-right, stays-left, stays-right}
use Rattle.collectors.proofs.either_collector.EitherCollector.accumulate_all_owned.Goals.{in-Left-Left, in-Right-Right, in_default, in_default-2}
use Rattle.collectors.proofs.either_collector.EitherCollector.accumulate_all_owned.Goals as goal

pub returns : goal.returns
returns g c =
    let A = g.A.Collector in
    let B = g.B.Collector in
    let is_value = g.A.Item.Value.is_value in
    let xs = map g.A.Item.Value.content c.args.items.now.items in
    let e = c.args.self.now in
    let before = c.args.acc.now in
    let after = c.match-self.acc in
    elim c.match-self.branch [
      | in-Left-Left w ↦ rw w.result-is (on_ok_weaker w.accumulate_all_owned.result
          (takes-left is_value A.content B.content A.empty B.empty A.add B.add e before after xs w.in-Left-Left.side w.in-Left-Left.acc w.accumulate_all_owned.new.acc w.in-Left-Left.is-0 w.in-Left-Left.is-1 w.acc-is)
          w.accumulate_all_owned.ensures)
      | in-Right-Right w ↦ rw w.result-is (on_ok_weaker w.accumulate_all_owned-in-Right-Right.result
          (takes-right is_value A.content B.content A.empty B.empty A.add B.add e before after xs w.in-Right-Right.side w.in-Right-Right.acc w.accumulate_all_owned-in-Right-Right.new.acc w.in-Right-Right.is-0 w.in-Right-Right.is-1 w.acc-is)
          w.accumulate_all_owned-in-Right-Right.ensures)
      | in_default w ↦ rw w.result-is (stays-left is_value A.content B.content A.empty B.empty A.add B.add e before after xs w.in_default.field-0-0 w.in_default.field-0-1 w.in_default.is-0 w.in_default.is-1 w.acc-is)
      | in_default-2 w ↦ rw w.result-is (stays-right is_value A.content B.content A.empty B.empty A.add B.add e before after xs w.in_default.field-0-0 w.in_default.field-0-1 w.in_default.is-0 w.in_default.is-1 w.acc-is)
    ]
