use Rattle.std.proofs.Common.{◌≡◌, All, List, take, flat_map}
use Rattle.barriers.specs.AnyBarriers.{any_can_carry, any_ready, any_value}
use Rattle.chained_streams.specs.Chains.{link_value, through_links}
use Rattle.pipeline_meaning.specs.Walks.{one_after_other}
use Rattle.spliterator.specs.Clones.{ClonesAlike}
use Rattle.pipeline_value.proofs.linked.linked.Given as goal

abbrev pub invariant-loop-at : goal.invariant-loop-at
invariant-loop-at g l =
    let value = link_value g.G.Steps.Stage.expand (any_value g.T.Value.same g.G.Check.Test.holds) in
    ((items : List g.row.T-Content.Denot) → flat_map (g.G.Steps.Stage.expand l.steps) (through_links value l.links.items items) ≡ one_after_other g.G.LanguageStage.makes (take l.at l.stages) items)
    × All (λ link. g.G.Steps.Stage.ready link.stage × any_ready g.G.Check.Test.ready link.barrier × any_can_carry (ClonesAlike g.T.Clone.is_clone g.T.Value.content) link.barrier) l.links.items
