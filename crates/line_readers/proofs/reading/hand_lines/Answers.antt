use Rattle.std.proofs.Common.{Err, List, [], ◌++◌, ◌∙◌, ap, flat_map, string_bytes, subst}
use Rattle.std.proofs.lemmas.Result.{err_from_is_err_and}
use Rattle.std.specs.Io.KnownBytes.{prepend_known}
use Rattle.line_blocks.specs.Blocks.{IsFolded}
use Rattle.line_blocks.specs.Faults.{IsFault}
use Rattle.line_readers.proofs.Behind.{decided-given, handed-more, last-given, none-taken, one-block, over-given, taken_of}
use Rattle.line_readers.proofs.Told.{on-err}
use Rattle.line_readers.proofs.reading.hand_lines.Invariants.{way}
use Rattle.line_readers.proofs.reading.hand_lines.Goals.{In-loop, In_ok-hand_list-2}
use Rattle.line_readers.proofs.reading.hand_lines.Goals as goal

pub loop-init : goal.loop-init
loop-init g c =
    let own = c.args.steps.now in
    let all = g.I.Read.remaining c.args.reader in
    let first = c.in_ok-blocks.ensures in
    let from = c.args.action.now in
    let none = g.met.K.Sink.takes_none from in
    record {
      ahead = (all, none-taken (way g own) (g.K.Sink.takes from) all (from, c.fresh-state.result) none (c.fresh-state.ensures own.between), first.block);
      taken = ([], none);
      stands = first.stands;
      longest = first.longest;
      last = first.last;
    }

-- the block is handed over
handed : (g : _) (c : In_ok-hand_list-2 g) → IsFolded (taken_of (way g c.args.steps.now) (g.K.Sink.takes c.args.action.now)) (g.I.Read.remaining c.args.reader)
    (c.hand_list-in-loop.new.action, c.in_ok-more.more.1) (prepend_known c.loop.blocks.rest.items (g.I.Read.remaining c.loop.blocks.reader))
handed g c =
    let way = way g c.args.steps.now in
    let ahead = c.loop.invariant.ahead in
    let later = c.in_ok-more.more.1 in
    let came = one-block way c.loop.state later c.in_ok-new_container.field-0 c.in_ok-more.more.0 (string_bytes c.loop.block.text) c.in_ok-new_container.ensures c.in_ok-more.ensures.worked in
    handed-more way g.K.Sink.takes g.met.K.Sink.takes_both c.args.action.now c.loop.action c.hand_list-in-loop.new.action c.loop.state later c.in_ok-more.more.0 _ ahead.0 _
    (string_bytes c.loop.block.text) ahead.1 ahead.2 came (λ l made. c.in_ok-hand_list-2.ensures.taken l made.0 made.1)

taken : (g : _) (c : In_ok-hand_list-2 g) → (items : List g.row.Z-Out-Content.Denot) × g.K.Sink.takes c.args.action.now items c.hand_list-in-loop.new.action
taken g c =
    let way = way g c.args.steps.now in
    let so_far = c.loop.invariant.taken in
    let came = one-block way c.loop.state c.in_ok-more.more.1 c.in_ok-new_container.field-0 c.in_ok-more.more.0 (string_bytes c.loop.block.text) c.in_ok-new_container.ensures c.in_ok-more.ensures.worked in
    let items = flat_map way.last came.kept in (
      so_far.0 ++ items,
      g.met.K.Sink.takes_both c.args.action.now c.loop.action c.hand_list-in-loop.new.action so_far.0 items so_far.1 (c.in_ok-hand_list-2.ensures.taken items came.in_acc.0 came.in_acc.1),
    )

pub loop-preserved : goal.loop-preserved
loop-preserved g c =
    let here = (goal.at.loop-preserved g c).In_ok-hand_list-2 in
    let stands = c.in_ok-more.ensures.stands (g.I.Read.remaining c.args.reader) c.loop.invariant.stands in
    record {
      ahead = (
        prepend_known c.loop.blocks.rest.items (g.I.Read.remaining c.loop.blocks.reader),
        handed g here,
        rw c.in_ok-behind.was at c.in_ok-more.ensures.block,
      );
      taken = taken g here;
      stands = rw c.in_ok-behind.was at stands;
      longest = (rw c.in_ok-behind.was at c.in_ok-more.ensures.longest) ∙ c.loop.invariant.longest;
      last = rw c.in_ok-behind.was at c.in_ok-more.ensures.last;
    }

pub returns-then-block-clause-taken : goal.returns-then-block-clause-taken
returns-then-block-clause-taken g c =
    let own = c.args.steps.now in
    let way = way g own in
    let takes = g.K.Sink.takes c.args.action.now in
    let next = c.hand_list.new.action in
    let ahead = c.loop.invariant.ahead in
    let all = g.I.Read.remaining c.args.reader in
    let left = prepend_known c.loop.blocks.rest.items (g.I.Read.remaining c.loop.blocks.reader) in
    let state = c.in_ok-whole._state in
    let came = one-block way c.loop.state state c.in_ok-new_container.field-0 c.in_ok-whole.whole (string_bytes c.loop.block.text) c.in_ok-new_container.ensures c.in_ok-whole.ensures in
    last-given way takes takes next (next, state) (g.met.Q.Between.of_nothing own.barriers own.between state) (λ l took. took) all left
    (handed-more way g.K.Sink.takes g.met.K.Sink.takes_both c.args.action.now c.loop.action next c.loop.state state c.in_ok-whole.whole all ahead.0 left
    (string_bytes c.loop.block.text) ahead.1 ahead.2 came (λ l made. c.in_ok-hand_list.ensures.taken l made.0 made.1))
    (c.loop.invariant.last c.if-block.true)

pub returns-then-is_over-clause-taken : goal.returns-then-is_over-clause-taken
returns-then-is_over-clause-taken g c =
    let own = c.args.steps.now in
    let takes = g.K.Sink.takes c.args.action.now in
    let next = c.hand_list-in-loop.new.action in
    over-given (way g own) takes takes next (next, c.in_ok-more.more.1) (g.met.Q.Between.of_nothing own.barriers own.between c.in_ok-more.more.1) (λ l took. took)
    (c.is_over.ensures c.if-is_over.true) _ _ (handed g (goal.at.returns-then-is_over-clause-taken g c).In_ok-hand_list-2)

-- the sink is full
pub returns-then-is_full-clause-taken : goal.returns-then-is_full-clause-taken
returns-then-is_full-clause-taken g c =
    let own = c.args.steps.now in
    let takes = g.K.Sink.takes c.args.action.now in
    let next = c.hand_list-in-loop.new.action in
    let full = c.is_full.ensures c.if-is_full.true in
    decided-given (way g own) takes takes next (next, c.in_ok-more.more.1) (g.met.Q.Between.of_nothing own.barriers own.between c.in_ok-more.more.1) (λ l took. took)
    (λ l r took same. g.met.K.Sink.takes_both c.args.action.now next next l r took (full r)) _ _ (handed g (goal.at.returns-then-is_full-clause-taken g c).In_ok-hand_list-2)

unspoilt : (g : _) (c : In-loop g) → g.K.Sink.spoils c.args.action.now c.loop.action
unspoilt g c =
    let taken = c.loop.invariant.taken in
    g.met.K.Sink.spoils_later c.args.action.now c.loop.action c.loop.action taken.0 taken.1 (g.met.K.Sink.spoils_nothing c.loop.action)

ready : (g : _) (c : In-loop g) → g.K.Sink.ready c.loop.action
ready g c =
    let taken = c.loop.invariant.taken in
    g.met.K.Sink.stays_ready c.args.action.now c.loop.action taken.0 taken.1 c.requires.action

pub hand_list-requires : goal.hand_list-requires
hand_list-requires g c = ready g (goal.at.hand_list-requires g c).In-loop

pub hand_list-requires-in-loop : goal.hand_list-requires-in-loop
hand_list-requires-in-loop g c = ready g (goal.at.hand_list-requires-in-loop g c).In-loop

pub is_full-requires : goal.is_full-requires
is_full-requires g c =
    let took = taken g (goal.at.is_full-requires g c).In_ok-hand_list-2 in
    g.met.K.Sink.stays_ready c.args.action.now c.hand_list-in-loop.new.action took.0 took.1 c.requires.action

pub returns-in_err-more-clause-spoilt : goal.returns-in_err-more-clause-spoilt
returns-in_err-more-clause-spoilt g c = on-err _ _ (unspoilt g (goal.at.returns-in_err-more-clause-spoilt g c).In-loop)

pub returns-in_err-hand_list-clause-spoilt : goal.returns-in_err-hand_list-clause-spoilt
returns-in_err-hand_list-clause-spoilt g c =
    let taken = c.loop.invariant.taken in
    on-err _ _ (g.met.K.Sink.spoils_later c.args.action.now c.loop.action c.hand_list.new.action taken.0 taken.1 c.in_err-hand_list.ensures.spoilt)

pub returns-in_err-hand_list-2-clause-spoilt : goal.returns-in_err-hand_list-2-clause-spoilt
returns-in_err-hand_list-2-clause-spoilt g c =
    let taken = c.loop.invariant.taken in
    on-err _ _ (g.met.K.Sink.spoils_later c.args.action.now c.loop.action c.hand_list-in-loop.new.action taken.0 taken.1 c.in_err-hand_list-2.ensures.spoilt)

pub returns-in_err-behind-clause-spoilt : goal.returns-in_err-behind-clause-spoilt
returns-in_err-behind-clause-spoilt g c =
    let next = c.hand_list-in-loop.new.action in
    let took = taken g (goal.at.returns-in_err-behind-clause-spoilt g c).In_ok-hand_list-2 in
    on-err _ _ (g.met.K.Sink.spoils_later c.args.action.now next next took.0 took.1 (g.met.K.Sink.spoils_nothing next))

pub returns-in_err-behind-clause-faults : goal.returns-in_err-behind-clause-faults
returns-in_err-behind-clause-faults g c =
    let all = g.I.Read.remaining c.args.reader in
    let told = c.in_ok-more.ensures.faults all c.loop.invariant.stands in
    let p = err_from_is_err_and c.from_residual-in_err-behind.result c.from_residual-in_err-behind.ensures.1 in
    rw (p.1 ∙ ap Err p.2) (subst (λ n. IsFault n all c.in_err-behind.field-0.0) c.loop.invariant.longest (rw c.in_err-behind.was at told))
