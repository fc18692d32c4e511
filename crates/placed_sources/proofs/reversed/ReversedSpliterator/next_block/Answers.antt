use Rattle.std.proofs.Common.{◌≡◌, ◌-◌, ◌++◌, map, take, drop, length, reverse, ap, ap₂, sym, ◌∙◌, arith}
use Rattle.std.proofs.lemmas.List.{length-map, take_at}
use Rattle.placed_sources.proofs.Reverses.{block-moved, map-reverse}
use Rattle.placed_sources.proofs.reversed.ReversedSpliterator.next_block.Goals as goal

pub returns-clause-moved : goal.returns-clause-moved
returns-clause-moved g c =
    let content = g.S.Item.Value.content in
    let xs = g.S.Spliterator.items c.args.self.now.source in
    let k = c.saturating_sub-before.result in
    let room = c.next_block.new.room in
    let rest = g.S.Spliterator.items c.next_block.new.self in
    let turned = c.reverse.new.self in
    let long : length (map content room.items) ≡ length room.items = length-map room.items content in
    let place : k ≡ length xs - c.args.most = omega (arith, c.saturating_sub-before.ensures, c.count.ensures) in
    let whole : take room.len (turned ++ drop (length turned) room.items) ≡ reverse room.items =
    take_at turned (drop (length turned) room.items) room.len (c.reverse.ensures.len ∙ c.as_mut_slice.ensures.len)
    ∙ c.reverse.ensures.after ∙ ap reverse c.as_mut_slice.ensures.value in
    block-moved c.args.most k xs (map content room.items) rest place (sym c.after_first-block.ensures ∙ c.in_ok-next_block.ensures.moved)
    (omega (arith, long, c.in_ok-next_block.ensures.most)) (λ short. c.in_ok-next_block.ensures.ended (omega (arith, long, short)))
    ∙ ap₂ (λ ys zs. ys ++ reverse zs) (sym (map-reverse content room.items) ∙ ap (map content) (sym whole)) (sym c.first-self.ensures)
