use Rattle.std.proofs.Common.{rules, pos, [], ◌∷◌}
use Rattle.std.proofs.lemmas.Int.{wraps}
use Rattle.stages.specs.Wrapping.{wrapped_sum}
use Rattle.stream_tests.proofs.of_parallel_streams.own_stage.WithNextStage.feed.Goals as goal

-- the two numbers, one after the other
pub returns-clause-taken : goal.returns-clause-taken
returns-clause-taken g c =
    let both = g.met.K.Sink.takes_both c.args.sink.now c.take.new.self c.take-2.new.self (c.args.x ∷ []) (wrapped_sum c.args.x (pos 1) ∷ []) in
    search (rules, wraps, both)
