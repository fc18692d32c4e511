use Rattle.std.proofs.Common.{◌≡◌, [], take}
use Rattle.chained_streams.specs.Chains.{AreFresh, link_behind, link_value, through_links}
use Rattle.chained_streams.specs.ChainReading.{StandLinks, StandsLink}
use Rattle.chained_streams.proofs.chain.fresh_states.Given as goal

abbrev pub invariant-loop-at : goal.invariant-loop-at
invariant-loop-at g l =
    let value = link_value g.A.Stage.expand g.B.Barrier.value in
    let stands = StandsLink g.A.Stage.expand g.B.Demand.needed g.B.Demand.counted g.B.Barrier.value g.B.Barrier.needed_behind g.B.Barrier.value_behind in
    record {
      fresh : AreFresh (link_behind g.A.Stage.expand g.B.Barrier.value_behind) value (take l.at l.fn.links.items) l.states.items;
      stand : StandLinks stands value (take l.at l.fn.links.items) l.states.items [] × (through_links value (take l.at l.fn.links.items) [] ≡ []);
    }
