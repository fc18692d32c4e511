use Rattle.std.proofs.Common.{List, ap, subst, sym, ⊎_elim, ◌∙◌}
use Rattle.chained_streams.specs.Chains.{behind_links, link_behind, link_value}
use Rattle.chained_streams.specs.ChainReading.{StandLinks, StandsLink}
use Rattle.chained_streams.specs.ChainLaws.{behind-nothing}
use Rattle.chained_streams.proofs.chain.ChainPlumbing.is_last.Goals as goal

pub returns-then-is_last-clause-last : goal.returns-then-is_last-clause-last
returns-then-is_last-clause-last g c = λ is.
    let step = link_behind g.A.Stage.expand g.B.Barrier.value_behind in
    let links = c.args.self.now.links.items in
    let states = c.args.progress.now.states.items in
    ap (behind_links step links states) (c.is_last.ensures.last is) ∙ behind-nothing step (λ link state. g.met.B.Barrier.of_nothing link.barrier state) links states

pub returns-else-is_last-clause-undecided : goal.returns-else-is_last-clause-undecided
returns-else-is_last-clause-undecided g c = λ is n read decided.
    let value = link_value g.A.Stage.expand g.B.Barrier.value in
    let stands = StandsLink g.A.Stage.expand g.B.Demand.needed g.B.Demand.counted g.B.Barrier.value g.B.Barrier.needed_behind g.B.Barrier.value_behind in
    let front = g.U.Plumbing.front c.args.self.now.upstream n in
    let P : List g.row.B-State.Denot → Type 0 = λ states. StandLinks stands value c.args.self.now.links.items states front in
    ⊎_elim
    (c.is_last.ensures.undecided c.if-is_last.false n read.0)
    (c.some_is_over.ensures.undecided is front (subst P (sym c.deref.ensures.value) read.1))
    decided
