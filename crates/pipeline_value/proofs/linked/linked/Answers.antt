use Rattle.std.proofs.Common.{◌<◌, ◌++◌, ◌∷◌, [], ap, arith, length, ◌∙◌}
use Rattle.std.{specs.Prelude.flat_map, proofs.lemmas.Bool.MatchBool-at_true, proofs.lemmas.List.take_all}
use Rattle.std.proofs.lemmas.List.Elements.{All-push, All-same}
use Rattle.barriers.specs.AnyBarriers.{any_can_carry, any_ready, any_value}
use Rattle.chained_streams.specs.Chains.{link_value, through_links}
use Rattle.chained_streams.specs.declared.chain.Link.{Link}
use Rattle.pipeline_meaning.specs.Walks.{one_after_other}
use Rattle.spliterator.specs.Clones.{ClonesAlike}
use Rattle.pipeline_value.proofs.Links.{stage-more, through-push}
use Rattle.pipeline_value.proofs.linked.linked.Goals as goal

pub loop-at-preserved-then-branch : goal.loop-at-preserved-then-branch
loop-at-preserved-then-branch g c =
    let makes = g.G.LanguageStage.makes in
    let value = link_value g.G.Steps.Stage.expand (any_value g.T.Value.same g.G.Check.Test.holds) in
    let within : c.loop-at.at < length c.args.stages.now = c.loop-at-test.true in (
      λ items.
          let came = through_links value c.loop-at.links.items items in
          MatchBool-at_true _ _ c.if-branch.true c.in_ok-put_behind.ensures came
          ∙ ap (λ stage. makes stage (flat_map (g.G.Steps.Stage.expand c.loop-at.steps) came)) c.index-stages-at.is
          ∙ stage-more makes c.args.stages.now c.loop-at.at _ (flat_map (g.G.Steps.Stage.expand c.loop-at.steps) came) items within (c.loop-at.invariant.0 items),
      c.loop-at.invariant.1,
    )

pub loop-at-preserved : goal.loop-at-preserved
loop-at-preserved g c =
    let makes = g.G.LanguageStage.makes in
    let expand = g.G.Steps.Stage.expand in
    let value = link_value expand (any_value g.T.Value.same g.G.Check.Test.holds) in
    let links = c.loop-at.links.items in
    let link : Link _ _ = record { stage = c.put_behind.new.steps; barrier = c.language_barrier-barrier.result } in
    let stage = c.index-stages-at-in-loop-at in
    let unchanged = (rw c.if-branch.false at c.in_ok-put_behind.ensures).1 in
    let within : c.loop-at.at < length c.args.stages.now = c.loop-at-test.true in
    let Ready : Link _ _ → Type 0 = λ l. g.G.Steps.Stage.ready l.stage × any_ready g.G.Check.Test.ready l.barrier × any_can_carry (ClonesAlike g.T.Clone.is_clone g.T.Value.content) l.barrier in (
      λ items.
          let came = through_links value links items in
          c.no_steps-steps-in-loop-at.ensures (through_links value c.push.new.self.items items)
          ∙ ap (λ ls. through_links value ls items) c.in_ok-push.ensures.items
          ∙ through-push value links link items
          ∙ c.language_barrier-barrier.ensures.value (flat_map (expand c.put_behind.new.steps) came)
          ∙ c.in-Some.ensures.none (flat_map (expand c.put_behind.new.steps) came)
          ∙ ap (λ s. makes stage.result (flat_map (expand s) came)) unchanged
          ∙ ap (λ s. makes s (flat_map (expand c.loop-at.steps) came)) stage.is
          ∙ stage-more makes c.args.stages.now c.loop-at.at _ (flat_map (expand c.loop-at.steps) came) items within (c.loop-at.invariant.0 items),
      All-same Ready c.push.new.self.items (links ++ link ∷ []) c.in_ok-push.ensures.items
          (All-push Ready links link c.loop-at.invariant.1 (g.met.G.LanguageStage.are_ready c.put_behind.new.steps, c.language_barrier-barrier.ensures.ready, c.language_barrier-barrier.ensures.can)),
    )

pub returns-clause-means : goal.returns-clause-means
returns-clause-means g c = λ l.
    c.loop-at.invariant.0 l ∙ ap (λ stages. one_after_other g.G.LanguageStage.makes stages l) (take_all c.loop-at.at c.args.stages.now (omega (arith, c.loop-at-test.false)))
