use Rattle.std.proofs.Common.{◌≡◌, ◌∙◌, not, ap}
use Rattle.std.specs.Prelude.{is_some}
use Rattle.gates.specs.Pictures.{was_counted, was_skipped}
use Rattle.gates.proofs.Pictures.{each_next}
use Rattle.gates.proofs.picture.mark_of.Goals as goal

pub loop-leaf-preserved : goal.loop-leaf-preserved
loop-leaf-preserved c =
    let run = c.args.entry.now in
    let so_far = c.loop-leaf.invariant in
    let below = c.loop-leaf-test.true in
    let here : c.is_some-is_counted.result ≡ was_counted run c.loop-leaf.leaf = c.is_some-is_counted.ensures ∙ ap is_some c.count.ensures in (
      each_next (was_counted run) c.loop-leaf.all c.is_some-is_counted.result _ c.loop-leaf.leaf c.args.end below here so_far.0,
      each_next (was_skipped run) c.loop-leaf.none (not c.is_some-is_counted.result) _ c.loop-leaf.leaf c.args.end below (ap not here) so_far.1,
    )
