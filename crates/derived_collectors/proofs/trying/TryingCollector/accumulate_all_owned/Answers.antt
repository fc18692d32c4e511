use Rattle.std.proofs.Common.{◌≡◌, ◌++◌, ◌∷◌, [], List, map, fold, ap, sym, subst, ◌∙◌}
use Rattle.std.proofs.lemmas.List.{map-append}
use Rattle.std.proofs.lemmas.List.Sums.{fold_push}
use Rattle.std.specs.Result.{result_map_both}
use Rattle.std.specs.Vec.Iter.{drain_items}
use Rattle.stages.proofs.Blocks.{read-next, read-all}
use Rattle.derived_collectors.specs.Tried.{try_add}
use Rattle.derived_collectors.proofs.trying.TryingCollector.accumulate_all_owned.Goals as goal

step : {X A I : Type 0} (add : A → X → A) (content : I → X) (a b next : A) (l : List I) (x : I) → b ≡ fold add a (map content l) → next ≡ add b (content x)
    → next ≡ fold add a (map content (l ++ x ∷ []))
step add content a b next l x is made =
    made ∙ ap (λ s. add s (content x)) is ∙ sym (fold_push add a (map content l) (content x)) ∙ ap (fold add a) (sym (map-append content l (x ∷ [])))

pub loop-item-preserved : goal.loop-item-preserved
loop-item-preserved g c =
    let down = c.args.self.now.downstream in
    let seen = result_map_both (g.D.Collector.content down) g.E.Value.content in
    let content = result_map_both g.D.Item.Value.content g.E.Value.content in
    let l = c.loop-item in
    let item = c.in-Some.item in (
      tt,
      tt,
      step (try_add (g.D.Collector.add down)) content (seen c.args.acc.now) (seen l.acc) (seen c.accumulate_owned.new.acc) l.yielded item l.invariant.2 c.in_ok-accumulate_owned.ensures,
      read-next c.args.items.now.items l.yielded (drain_items l.item-iterator) (drain_items c.next.new.self) item c.in-Some.ensures.steps.0 l.invariant.3,
    )

pub returns : goal.returns
returns g c =
    let down = c.args.self.now.downstream in
    let seen = result_map_both (g.D.Collector.content down) g.E.Value.content in
    let content = result_map_both g.D.Item.Value.content g.E.Value.content in
    let l = c.loop-item in
    subst (λ items. seen l.acc ≡ fold (try_add (g.D.Collector.add down)) (seen c.args.acc.now) (map content items))
    (read-all c.args.items.now.items l.yielded (drain_items l.item-iterator) c.in-None.ensures.steps.0 l.invariant.3) l.invariant.2
