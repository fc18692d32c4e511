use Rattle.std.proofs.Common.{◌∙◌, ◌≡◌, None, ap}
use Rattle.std.proofs.lemmas.Result.{on_ok_weaker}
use Rattle.std.specs.Map.{lookup}
use Rattle.collectors.specs.Grouping.{put, contents}
use Rattle.collectors.proofs.Entries.{put-insert_entry, absent-place}
use Rattle.collectors.proofs.grouping.add_group.Goals as goal

pub returns : goal.returns
returns g c =
    let d = c.args.downstream.now in
    let x = g.D.Item.Value.content c.args.x.now in
    let keys = g.K.Value.content in
    let kept = g.D.Collector.content d in
    let es = c.args.groups.now.entries.entries in
    let absent : lookup (g.K.PartialEq.eq c.args.key) es ≡ None = absent-place g.K.PartialEq.eq c.args.key es c.requires.absent in
    on_ok_weaker c.push.result
    (λ pushed. ap (contents keys kept) pushed
    ∙ put-insert_entry g.K.PartialEq.eq g.K.Value.same keys kept g.met.K.EqualValue.eq_is_same c.args.key c.in_ok-kept.kept (λ a. g.D.Collector.add d a x) es absent
    ∙ ap (λ a. put g.K.Value.same (keys c.args.key) a (λ a. g.D.Collector.add d a x) (contents keys kept es)) c.in_ok-kept.ensures)
    c.push.ensures
