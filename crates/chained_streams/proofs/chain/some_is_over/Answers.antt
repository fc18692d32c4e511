use Rattle.std.proofs.Common.{ℕ, add-one, arith, flat_map, subst, sym}
use Rattle.chained_streams.specs.Chains.{link_behind, link_value}
use Rattle.chained_streams.specs.ChainReading.{AreOpen, EnoughLink, StandsLink}
use Rattle.chained_streams.specs.ChainReadingLaws.{open-next, open-undecided}
use Rattle.parallel_streams.specs.ReadingLaws.{enough-over}
use Rattle.chained_streams.specs.ChainLaws.{over-links}
use Rattle.chained_streams.proofs.chain.some_is_over.Goals as goal

pub returns-then-is_over-clause-over : goal.returns-then-is_over-clause-over
returns-then-is_over-clause-over g c = λ is items.
    let step = link_behind g.A.Stage.expand g.B.Barrier.value_behind in
    let within = c.loop-at-test.true in
    over-links step (λ link state. g.met.B.Barrier.of_nothing link.barrier state) c.loop-at.at c.args.links.now.items c.args.states.now c.index.result.now c.index-states-at.result items
    (omega (arith, within, c.min-count.ensures, c.len.ensures)) (omega (arith, within, c.min-count.ensures, c.len.ensures)) c.index.ensures c.index-states-at.is (λ more. c.is_over.ensures.over c.if-is_over.true _)

pub loop-at-preserved : goal.loop-at-preserved
loop-at-preserved g c =
    let stands = StandsLink g.A.Stage.expand g.B.Demand.needed g.B.Demand.counted g.B.Barrier.value g.B.Barrier.needed_behind g.B.Barrier.value_behind in
    let enough = EnoughLink g.A.Stage.expand g.B.Demand.needed g.B.Demand.counted in
    let within = c.loop-at-test.true in
    let P : ℕ → Type 0 = λ n. AreOpen (λ link state. g.B.Barrier.needed_behind link.barrier state) n c.args.links.now.items c.args.states.now in
    subst P (sym (add-one c.loop-at.at)) (open-next (λ link state. g.B.Barrier.needed_behind link.barrier state) stands enough (link_value g.A.Stage.expand g.B.Barrier.value) c.loop-at.at c.args.links.now.items c.args.states.now
    c.index.result.now c.index-states-at.result (omega (arith, within, c.min-count.ensures, c.len.ensures)) (omega (arith, within, c.min-count.ensures, c.len.ensures)) c.index.ensures c.index-states-at.is
    (c.is_over.ensures.needs c.if-is_over.false) c.loop-at.invariant)

pub returns-clause-undecided : goal.returns-clause-undecided
returns-clause-undecided g c = λ is items at some.
    let stands = StandsLink g.A.Stage.expand g.B.Demand.needed g.B.Demand.counted g.B.Barrier.value g.B.Barrier.needed_behind g.B.Barrier.value_behind in
    let enough = EnoughLink g.A.Stage.expand g.B.Demand.needed g.B.Demand.counted in
    let done = c.loop-at-test.false in
    open-undecided (λ link state. g.B.Barrier.needed_behind link.barrier state) stands enough (link_value g.A.Stage.expand g.B.Barrier.value)
    (λ link state items stood one. enough-over (g.B.Demand.needed link.barrier) (g.B.Barrier.needed_behind link.barrier state) (g.B.Demand.counted link.barrier) (flat_map (g.A.Stage.expand link.stage) items) stood.0 one)
    c.loop-at.at c.args.links.now.items c.args.states.now items (omega (arith, done, c.min-count.ensures, c.len.ensures)) c.loop-at.invariant at some
