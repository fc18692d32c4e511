use Rattle.std.proofs.Common.{List, ap, arith, subst, sym, ◌∙◌}
use Rattle.chained_streams.specs.Chains.{link_behind, link_value, through_links}
use Rattle.chained_streams.specs.ChainReading.{StandLinks, StandsLink}
use Rattle.chained_streams.specs.ChainLaws.{fresh-length, through-fresh}
use Rattle.chained_streams.proofs.chain.ChainPlumbing.start.Goals as goal

pub returns-clause-holds : goal.returns-clause-holds
returns-clause-holds g c =
    let step = link_behind g.A.Stage.expand g.B.Barrier.value_behind in
    let value = link_value g.A.Stage.expand g.B.Barrier.value in
    (c.in_ok-before.ensures.holds, (fresh-length step value c.args.self.now.links.items c.in_ok-states.states.items c.in_ok-states.ensures.fresh, omega arith, tt, tt))

pub returns-clause-left : goal.returns-clause-left
returns-clause-left g c =
    let step = link_behind g.A.Stage.expand g.B.Barrier.value_behind in
    let value = link_value g.A.Stage.expand g.B.Barrier.value in
    through-fresh step value c.args.self.now.links.items c.in_ok-states.states.items _ c.in_ok-states.ensures.fresh ∙ ap (through_links value c.args.self.now.links.items) c.in_ok-before.ensures.left

pub returns-clause-nothing : goal.returns-clause-nothing
returns-clause-nothing g c = ap (through_links (link_value g.A.Stage.expand g.B.Barrier.value) c.args.self.now.links.items) c.in_ok-before.ensures.nothing ∙ c.in_ok-states.ensures.stand.1

pub returns-clause-reads : goal.returns-clause-reads
returns-clause-reads g c =
    let value = link_value g.A.Stage.expand g.B.Barrier.value in
    let stands = StandsLink g.A.Stage.expand g.B.Demand.needed g.B.Demand.counted g.B.Barrier.value g.B.Barrier.needed_behind g.B.Barrier.value_behind in
    let P : List g.row.U-Item-Content.Denot → Type 0 = λ l. StandLinks stands value c.args.self.now.links.items c.in_ok-states.states.items l in
    let up = c.in_ok-before.ensures.reads in
    (up.0, (up.1, subst P (sym c.in_ok-before.ensures.nothing) c.in_ok-states.ensures.stand.0, tt), up.2)
