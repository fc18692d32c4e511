use Rattle.std.proofs.Common.{map, take, ap, ◌∙◌, sym}
use Rattle.std.specs.List.{prefix_len}
use Rattle.std.proofs.lemmas.List.{take-map}
use Rattle.barriers.proofs.whiles.TakeWhileBarrier.apply.Goals as goal

pub returns-clause-value : goal.returns-clause-value
returns-clause-value g c =
    let content = g.T.Value.content in
    let items = c.args.items.items in
    ap (map content) c.truncate.ensures.items
    ∙ sym (take-map content c.length_of_front.result items)
    ∙ ap (λ n. take n (map content items)) (c.length_of_front.ensures.front ∙ ap (λ l. prefix_len (g.P.Test.holds c.args.self.now.test) (map content l)) c.deref.ensures.value)
