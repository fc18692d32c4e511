use Rattle.std.proofs.Common.{rules, ◌<◌, [], length, arith}
use Rattle.parallel_streams.proofs.Listing.{listed-one}
use Rattle.parallel_streams.proofs.handover.list_leaves.Goals as goal

pub loop-leaf-preserved : goal.loop-leaf-preserved
loop-leaf-preserved g c =
    let stream = c.args.stream.now in
    let progress = c.args.progress.now in
    let parts = g.X.Plumbing.parts stream progress in
    let number = (g.met.X.Plumbing g.world.𝓛 g.world.𝓜 g.world.𝓡 ((λ s x. x), (λ x. x), (λ x. x), λ x. x)).parts_count stream progress c.requires.done in
    let within : c.loop-leaf.leaf < length parts = omega (arith, c.loop-leaf-test.true, c.leaves-leaf-end.ensures, number) in
    listed-one g.X.Item.Value.content parts c.loop-leaf.leaf [] c.loop-leaf.list.items c.feed_last_leaf-fed.new.sink.items within c.loop-leaf.invariant c.in_ok-fed.ensures

-- bounded: a wrong body would search to its limit
pub loop-leaf-init : goal.loop-leaf-init
loop-leaf-init g c = search rules fits 60 depth 3
