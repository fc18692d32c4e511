use Rattle.std.proofs.Common.{◌<◌, [], ◌∷◌, ◌++◌, map, take, length, ap, sym, ◌∙◌, arith}
use Rattle.std.proofs.lemmas.List.{map_more, take_all}
use Rattle.std.proofs.lemmas.List.Elements.{All-push, All-same}
use Rattle.spliterator.proofs.slices.RefSliceValue.is_value.Goals as goal

pub loop-item-preserved : goal.loop-item-preserved
loop-item-preserved g c =
    let content = g.T.Value.content in
    let items = c.args.self.now.now in
    let at = c.loop-item.item-index in
    let item = c.item-item.result in
    let within : at < length items = c.loop-item-test.true in
    let next = map_more content items at item within ∙ ap (λ x. map content (take at items) ++ content x ∷ []) (sym c.item-item.is) in
    All-same g.T.Value.is_value _ _ next (All-push g.T.Value.is_value (map content (take at items)) (content item) c.loop-item.invariant c.is_value.ensures.value)

pub returns-clause-value : goal.returns-clause-value
returns-clause-value g c =
    let content = g.T.Value.content in
    let items = c.args.self.now.now in
    All-same g.T.Value.is_value _ _ (ap (map content) (sym (take_all c.loop-item.item-index items (omega (arith, c.loop-item-test.false))))) c.loop-item.invariant
