use Rattle.parallel_streams.specs.ProgressLaws.{combines-joined}
use Rattle.parallel_streams.proofs.barred.BarredPlumbing.combine.Goals as goal

pub returns-in_ok-join-in-Own-following-2 : goal.returns-in_ok-join-in-Own-following-2
returns-in_ok-join-in-Own-following-2 g c =
    let s = c.args.self.now in
    let U = g.U.Plumbing in
    let p = c.args.progress.now in
    combines-joined (U.work s.upstream p.before) (g.B.Barrier.needed_behind s.barrier p.state) (g.B.Demand.counted s.barrier) g.U.Item.Value.is_value g.U.Item.Value.content (g.B.Barrier.value_behind s.barrier p.state) (U.parts s.upstream p.before)
    (U.done s.upstream p.before) c.args.kept.now c.args.following c.in-Own.kept c.in-Own-following-2.following c.join.new.self c.in-Own.is c.in-Own-following-2.is c.in_ok-join-in-Own-following-2.ensures
