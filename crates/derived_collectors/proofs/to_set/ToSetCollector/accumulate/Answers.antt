use Rattle.spliterator.specs.Clones.{clones-tested}
use Rattle.derived_collectors.proofs.SetKeys.{set_add-put, set_add-there}
use Rattle.derived_collectors.proofs.to_set.ToSetCollector.accumulate.Goals as goal

pub returns-in_ok-insert : goal.returns-in_ok-insert
returns-in_ok-insert g c =
    let content = g.T.Value.content in
    let alike = clones-tested g.T.Value.same g.met.T.Value.same_decides g.T.Clone.is_clone content c.args.self.now.clones_alike in
    set_add-put content g.T.PartialEq.eq g.T.Value.same g.met.T.EqualValue.eq_is_same c.args.acc.now.keys _ c.in_ok-clone.field-0 c.args.x.now
    c.in_ok-insert.ensures.keys (alike c.args.x.now c.in_ok-clone.field-0 c.in_ok-clone.ensures.cases)

pub returns-else-not-contains : goal.returns-else-not-contains
returns-else-not-contains g c =
    set_add-there g.T.Value.content g.T.PartialEq.eq g.T.Value.same g.met.T.EqualValue.eq_is_same c.args.acc.now.keys c.args.x.now
    c.contains.result c.contains.ensures c.if-not-contains.false
