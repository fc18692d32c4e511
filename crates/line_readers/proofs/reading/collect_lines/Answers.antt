use Rattle.std.proofs.Common.{string_bytes, ◌∙◌}
use Rattle.std.specs.Io.KnownBytes.{prepend_known}
use Rattle.line_blocks.specs.Blocks.{IsFolded}
use Rattle.line_blocks.proofs.Cuts.{folded-more}
use Rattle.line_readers.proofs.Behind.{decided-given, if-given, last-given, none-taken, over-given, taken_of}
use Rattle.line_readers.proofs.reading.collect_lines.Invariants.{made, way}
use Rattle.line_readers.proofs.reading.collect_lines.Goals.{In_ok-more}
use Rattle.line_readers.proofs.reading.collect_lines.Goals as goal

pub loop-init : goal.loop-init
loop-init g c =
    let own = c.args.steps.now in
    let all = g.I.Read.remaining c.args.reader in
    let first = c.in_ok-blocks.ensures in
    record {
      ahead = (all, none-taken (way g own) (made g c.args.collector.now) all (c.in_ok-new_container.field-0, c.fresh.result) c.in_ok-new_container.ensures (c.fresh.ensures own.between), first.block);
      stands = first.stands;
      longest = first.longest;
      last = first.last;
    }

-- the block is taken in
taken-in : (g : _) (c : In_ok-more g) → IsFolded (taken_of (way g c.args.steps.now) (made g c.args.collector.now))
    (g.I.Read.remaining c.args.reader) c.in_ok-more.more (prepend_known c.loop.blocks.rest.items (g.I.Read.remaining c.loop.blocks.reader))
taken-in g c =
    let way = way g c.args.steps.now in
    let ahead = c.loop.invariant.ahead in
    folded-more (taken_of way (made g c.args.collector.now)) _ ahead.0 _ c.loop.taken c.in_ok-more.more (string_bytes c.loop.block.text) ahead.1 ahead.2 (c.in_ok-more.ensures.worked way.whole)

pub loop-preserved : goal.loop-preserved
loop-preserved g c =
    let stands = c.in_ok-more.ensures.stands (g.I.Read.remaining c.args.reader) c.loop.invariant.stands in
    record {
      ahead = (
        prepend_known c.loop.blocks.rest.items (g.I.Read.remaining c.loop.blocks.reader),
        taken-in g (goal.at.loop-preserved g c).In_ok-more,
        rw c.in_ok-behind.was at c.in_ok-more.ensures.block,
      );
      stands = rw c.in_ok-behind.was at stands;
      longest = (rw c.in_ok-behind.was at c.in_ok-more.ensures.longest) ∙ c.loop.invariant.longest;
      last = rw c.in_ok-behind.was at c.in_ok-more.ensures.last;
    }

pub returns-then-may_fly-clause-value : goal.returns-then-may_fly-clause-value
returns-then-may_fly-clause-value g c =
    let ahead = c.loop.invariant.ahead in
    c.pass_on.ensures.value (way g c.args.steps.now).whole (g.I.Read.remaining c.args.reader) ahead.0 ahead.1 ahead.2

pub returns-then-block-clause-value : goal.returns-then-block-clause-value
returns-then-block-clause-value g c =
    let own = c.args.steps.now in
    let way = way g own in
    let made = made g c.args.collector.now in
    let ahead = c.loop.invariant.ahead in
    let all = g.I.Read.remaining c.args.reader in
    let left = prepend_known c.loop.blocks.rest.items (g.I.Read.remaining c.loop.blocks.reader) in
    let taken : g.row.C-Acc.Denot × g.row.Q-State.Denot = (c.in_ok-whole.whole, c.in_ok-whole._state) in
    if-given (λ l. made l taken.0) c.finish_lines.result c.finish_lines.ensures.value (λ out finished.
    last-given way made (g.C.Collector.gives c.args.collector.now) out taken (g.met.Q.Between.of_nothing own.barriers own.between taken.1) finished
    all left (folded-more (taken_of way made) all ahead.0 left c.loop.taken taken (string_bytes c.loop.block.text) ahead.1 ahead.2 (c.in_ok-whole.ensures way.whole))
    (c.loop.invariant.last c.if-block.true))

pub returns-then-is_over-clause-value : goal.returns-then-is_over-clause-value
returns-then-is_over-clause-value g c =
    let own = c.args.steps.now in
    let made = made g c.args.collector.now in
    if-given (λ l. made l c.in_ok-more.more.0) c.finish_lines-then-is_over.result c.finish_lines-then-is_over.ensures.value (λ out finished.
    over-given (way g own) made (g.C.Collector.gives c.args.collector.now) out c.in_ok-more.more
    (g.met.Q.Between.of_nothing own.barriers own.between c.in_ok-more.more.1) finished (c.is_over.ensures c.if-is_over.true) _ _ (taken-in g (goal.at.returns-then-is_over-clause-value g c).In_ok-more))

pub returns-then-is_over-2-clause-value : goal.returns-then-is_over-2-clause-value
returns-then-is_over-2-clause-value g c =
    let own = c.args.steps.now in
    let made = made g c.args.collector.now in
    if-given (λ l. made l c.in_ok-more.more.0) c.finish_lines-then-is_over-2.result c.finish_lines-then-is_over-2.ensures.value (λ out finished.
    decided-given (way g own) made (g.C.Collector.gives c.args.collector.now) out c.in_ok-more.more
    (g.met.Q.Between.of_nothing own.barriers own.between c.in_ok-more.more.1) finished (λ l r is told. c.is_over-in-loop.ensures c.if-is_over-2.true l r is.0 is.1 out told)
    _ _ (taken-in g (goal.at.returns-then-is_over-2-clause-value g c).In_ok-more))
