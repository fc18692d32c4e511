use Rattle.std.proofs.Common.{◌<◌, length, arith}
use Rattle.collectors.proofs.Folded.{folded-next, folded-all}
use Rattle.collectors.proofs.strands.join_rows.Goals as goal

pub loop-i-preserved : goal.loop-i-preserved
loop-i-preserved g c =
    let content = g.T.Value.content in
    let join = g.O.Operator.join c.args.operator.now in
    let l = c.loop-i in
    let old = c.args.strands.now in
    let new = c.join_row.new.strands in
    let in_a : l.i < length c.args.a.now = c.loop-i-test.true in
    let in_b : l.i < length c.args.b.now = omega (arith, in_a, c.requires.b) in
    let in_c : l.i < length c.args.c.now = omega (arith, in_a, c.requires.c) in
    let in_d : l.i < length c.args.d.now = omega (arith, in_a, c.requires.d) in (
      folded-next content join (content old.first) (content l.strands.first) (content new.first) c.args.a.now l.i c.index-a-i.result in_a c.index-a-i.is l.invariant.0 c.in_ok-join_row.ensures.first,
      folded-next content join (content old.second) (content l.strands.second) (content new.second) c.args.b.now l.i c.index-b-i.result in_b c.index-b-i.is l.invariant.1 c.in_ok-join_row.ensures.second,
      folded-next content join (content old.third) (content l.strands.third) (content new.third) c.args.c.now l.i c.index-c-i.result in_c c.index-c-i.is l.invariant.2 c.in_ok-join_row.ensures.third,
      folded-next content join (content old.fourth) (content l.strands.fourth) (content new.fourth) c.args.d.now l.i c.index-d-i.result in_d c.index-d-i.is l.invariant.3 c.in_ok-join_row.ensures.fourth,
    )

pub returns-clause-first : goal.returns-clause-first
returns-clause-first g c =
    let content = g.T.Value.content in
    folded-all content (g.O.Operator.join c.args.operator.now) (content c.args.strands.now.first) (content c.loop-i.strands.first) c.args.a.now c.loop-i.i
    (omega (arith, c.loop-i-test.false)) c.loop-i.invariant.0

pub returns-clause-second : goal.returns-clause-second
returns-clause-second g c =
    let content = g.T.Value.content in
    folded-all content (g.O.Operator.join c.args.operator.now) (content c.args.strands.now.second) (content c.loop-i.strands.second) c.args.b.now c.loop-i.i
    (omega (arith, c.loop-i-test.false, c.requires.b)) c.loop-i.invariant.1

pub returns-clause-third : goal.returns-clause-third
returns-clause-third g c =
    let content = g.T.Value.content in
    folded-all content (g.O.Operator.join c.args.operator.now) (content c.args.strands.now.third) (content c.loop-i.strands.third) c.args.c.now c.loop-i.i
    (omega (arith, c.loop-i-test.false, c.requires.c)) c.loop-i.invariant.2

pub returns-clause-fourth : goal.returns-clause-fourth
returns-clause-fourth g c =
    let content = g.T.Value.content in
    folded-all content (g.O.Operator.join c.args.operator.now) (content c.args.strands.now.fourth) (content c.loop-i.strands.fourth) c.args.d.now c.loop-i.i
    (omega (arith, c.loop-i-test.false, c.requires.d)) c.loop-i.invariant.3
