use Rattle.std.proofs.Common.{ap}
use Rattle.collectors.specs.Laws.{IsContainerOf}
use Rattle.terminals.proofs.Decided.{found-decided}
use Rattle.terminals.proofs.terminals.Terminals.collect_decided.Goals as goal

pub returns : goal.returns
returns g c =
    let it = c.args.collector.now in
    let C = g.C.Collector in
    let here = g.met.C.Deciding g.world.𝓛 g.world.𝓜 g.world.𝓡 ((λ s x. x), (λ x. x), (λ x. x), λ x. x) in
    let made = IsContainerOf g.Self.Item.Value.is_value (C.content it) (C.empty it) (C.add it) in
    record {
      value =
          found-decided (g.C.Deciding.decisive it) made (C.gives it) (here.decided it)
          (g.C.Deciding.decisive c.new-demand.result.test.collector.now) (ap (λ t. g.C.Deciding.decisive t.collector.now) c.new-demand.ensures)
          (g.Self.Plumbing.value c.args.self.now) c.in_ok-acc.acc c.in_ok-acc.field-0-1 c.in_ok-acc.ensures.found
          c.finish_on.result c.finish_on.ensures;
    }
