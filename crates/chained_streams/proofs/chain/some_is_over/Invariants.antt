use Rattle.chained_streams.specs.ChainReading.{AreOpen}
use Rattle.chained_streams.proofs.chain.some_is_over.Given as goal

-- no link was over so far
abbrev pub invariant-loop-at : goal.invariant-loop-at
invariant-loop-at g l = AreOpen (λ link state. g.B.Barrier.needed_behind link.barrier state) l.at l.fn.links.items l.fn.states
