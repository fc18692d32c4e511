use Rattle.std.proofs.Common.{map, drop, ap, ◌∙◌, sym}
use Rattle.std.specs.List.{prefix_len}
use Rattle.std.proofs.lemmas.List.{drop-map}
use Rattle.barriers.proofs.whiles.DropWhileBarrier.apply.Goals as goal

pub returns-clause-value : goal.returns-clause-value
returns-clause-value g c =
    let content = g.T.Value.content in
    let items = c.args.items.items in
    ap (map content) c.drop_front.ensures
    ∙ sym (drop-map content c.length_of_front-length.result items)
    ∙ ap (λ n. drop n (map content items)) (c.length_of_front-length.ensures.front ∙ ap (λ l. prefix_len (g.P.Test.holds c.args.self.now.test) (map content l)) c.deref.ensures.value)
