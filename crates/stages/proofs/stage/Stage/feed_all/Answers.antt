use Rattle.std.proofs.Common.{refl, subst, map, flat_map}
use Rattle.std.specs.Vec.Iter.{drain_items}
use Rattle.stages.proofs.Blocks.{on_err_at, read-next, read-all, fed-append, fed-next}
use Rattle.stages.proofs.stage.Stage.feed_all.Goals as goal

pub loop-item-preserved : goal.loop-item-preserved
loop-item-preserved g c =
    let expand = g.Self.Stage.expand c.args.self.now in
    let content = g.Self.In.Value.content in
    let l = c.loop-item in
    let item = c.in-Some.item in (
      tt,
      tt,
      g.met.K.Sink.stays_ready l.sink c.feed.new.sink (expand (content item)) c.in_ok-feed.ensures.taken l.invariant.2,
      fed-next g.K.Sink.takes g.met.K.Sink.takes_both expand content c.args.sink.now l.sink c.feed.new.sink l.yielded item l.invariant.3 c.in_ok-feed.ensures.taken,
      read-next c.args.items.now.items l.yielded (drain_items l.item-iterator) (drain_items c.next.new.self) item c.in-Some.ensures.steps.0 l.invariant.4,
    )

pub returns-clause-taken : goal.returns-clause-taken
returns-clause-taken g c =
    let expand = g.Self.Stage.expand c.args.self.now in
    let content = g.Self.In.Value.content in
    let l = c.loop-item in
    subst (λ items. g.K.Sink.takes c.args.sink.now (flat_map expand (map content items)) l.sink)
    (read-all c.args.items.now.items l.yielded (drain_items l.item-iterator) c.in-None.ensures.steps.0 l.invariant.4) l.invariant.3

pub returns-then-is_full-clause-taken : goal.returns-then-is_full-clause-taken
returns-then-is_full-clause-taken g c =
    let expand = g.Self.Stage.expand c.args.self.now in
    let content = g.Self.In.Value.content in
    let l = c.loop-item in
    let rest = drain_items l.item-iterator in
    fed-append g.K.Sink.takes g.met.K.Sink.takes_both expand content c.args.sink.now l.sink l.sink c.args.items.now.items l.yielded rest l.invariant.4 l.invariant.3
    (c.if-is_full.ensures refl (flat_map expand (map content rest)))

pub returns-in_err-feed-clause-spoilt : goal.returns-in_err-feed-clause-spoilt
returns-in_err-feed-clause-spoilt g c =
    let l = c.loop-item in
    on_err_at c.from_residual.result (g.met.K.Sink.spoils_later c.args.sink.now l.sink c.feed.new.sink (flat_map (g.Self.Stage.expand c.args.self.now) (map g.Self.In.Value.content l.yielded)) l.invariant.3 c.in_err-feed.ensures.spoilt)
