use Rattle.std.proofs.Common.{◌≡◌, ◌++◌, ◌∷◌, [], List, ap, arith, get_or, rules, subst, sym, take, ◌∙◌}
use Rattle.std.proofs.lemmas.List.{take_more}
use Rattle.chained_streams.specs.Chains.{AreFresh, link_behind, link_value, through_links}
use Rattle.chained_streams.specs.ChainReading.{StandLinks, StandsLink}
use Rattle.chained_streams.specs.ChainReadingLaws.{link-fresh, stand-push}
use Rattle.chained_streams.specs.ChainLaws.{fresh-push}
use Rattle.chained_streams.proofs.chain.fresh_states.Goals as goal

pub loop-at-preserved : goal.loop-at-preserved
loop-at-preserved g c =
    let step = link_behind g.A.Stage.expand g.B.Barrier.value_behind in
    let value = link_value g.A.Stage.expand g.B.Barrier.value in
    let links = c.args.links.now.items in
    let at = c.loop-at.at in
    let link = c.index.result.now in
    let is : link ≡ get_or links at link = search rules in
    let more = take_more links at link (omega (arith, c.loop-at-test.true, c.len-at-end.ensures)) ∙ ap (λ l. take at links ++ l ∷ []) (sym is) in
    let stands = StandsLink g.A.Stage.expand g.B.Demand.needed g.B.Demand.counted g.B.Barrier.value g.B.Barrier.needed_behind g.B.Barrier.value_behind in
    let state = c.fresh.result in
    let none = g.met.B.Barrier.of_nothing link.barrier state in
    let begins = link-fresh g.A.Stage.expand g.B.Demand.needed g.B.Demand.counted g.B.Barrier.value g.B.Barrier.needed_behind g.B.Barrier.value_behind link state c.fresh.ensures.needed c.fresh.ensures.value none in
    let P : List _ → Type 0 = λ l. AreFresh step value l c.push.new.self.items in
    let Q : List _ → Type 0 = λ s. AreFresh step value (take at links ++ link ∷ []) s in
    let R : List _ → Type 0 = λ l. StandLinks stands value l c.push.new.self.items [] × (through_links value l [] ≡ []) in
    let T : List _ → Type 0 = λ s. StandLinks stands value (take at links ++ link ∷ []) s [] × (through_links value (take at links ++ link ∷ []) [] ≡ []) in
    record {
      fresh = subst P (sym more) (subst Q (sym c.in_ok-push.ensures.items) (fresh-push step value (take at links) c.loop-at.states.items link state c.loop-at.invariant.fresh (λ items. c.fresh.ensures.value _)));
      stand = subst R (sym more) (subst T (sym c.in_ok-push.ensures.items) (stand-push stands value (take at links) c.loop-at.states.items link state [] c.loop-at.invariant.stand begins (sym (c.fresh.ensures.value []) ∙ none)));
    }
