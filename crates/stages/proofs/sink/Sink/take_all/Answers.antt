use Rattle.std.proofs.Common.{refl, subst, [], ◌∷◌, ◌++◌, map}
use Rattle.std.specs.Vec.Iter.{drain_items}
use Rattle.stages.proofs.Blocks.{on_err_at, read-next, read-all, taken-append}
use Rattle.stages.proofs.sink.Sink.take_all.Goals as goal

pub loop-item-preserved : goal.loop-item-preserved
loop-item-preserved g c =
    let content = g.T.Value.content in
    let l = c.loop-item in
    let item = c.in-Some.item in (
      tt,
      tt,
      g.met.Self.Sink.stays_ready l.self c.take.new.self (content item ∷ []) c.in_ok-take.ensures.taken l.invariant.2,
      taken-append g.Self.Sink.takes g.met.Self.Sink.takes_both content c.args.self.now l.self c.take.new.self (l.yielded ++ item ∷ []) l.yielded (item ∷ []) refl l.invariant.3 c.in_ok-take.ensures.taken,
      read-next c.args.items.now.items l.yielded (drain_items l.item-iterator) (drain_items c.next.new.self) item c.in-Some.ensures.steps.0 l.invariant.4,
    )

pub returns-clause-taken : goal.returns-clause-taken
returns-clause-taken g c =
    let l = c.loop-item in
    subst (λ items. g.Self.Sink.takes c.args.self.now (map g.T.Value.content items) l.self)
    (read-all c.args.items.now.items l.yielded (drain_items l.item-iterator) c.in-None.ensures.steps.0 l.invariant.4) l.invariant.3

pub returns-then-is_full-clause-taken : goal.returns-then-is_full-clause-taken
returns-then-is_full-clause-taken g c =
    let content = g.T.Value.content in
    let l = c.loop-item in
    let rest = drain_items l.item-iterator in
    taken-append g.Self.Sink.takes g.met.Self.Sink.takes_both content c.args.self.now l.self l.self c.args.items.now.items l.yielded rest l.invariant.4 l.invariant.3
    (c.if-is_full.ensures refl (map content rest))

pub returns-in_err-take-clause-spoilt : goal.returns-in_err-take-clause-spoilt
returns-in_err-take-clause-spoilt g c =
    let l = c.loop-item in
    on_err_at c.from_residual.result (g.met.Self.Sink.spoils_later c.args.self.now l.self c.take.new.self (map g.T.Value.content l.yielded) l.invariant.3 c.in_err-take.ensures.spoilt)
