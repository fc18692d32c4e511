use Rattle.std.proofs.Common.{◌≡◌, ◌∙◌, ap, fold, map, length, arith, ◌/◌}
use Rattle.std.proofs.lemmas.List.{take_all}
use Rattle.collectors.proofs.StrandLaws.{in-slices}
use Rattle.collectors.proofs.strands.join_all.Goals as goal

pub returns : goal.returns
returns g c =
    let content = g.T.Value.content in
    let join = g.O.Operator.join c.args.operator.now in
    let joined = content c.join_slices.new.joined in
    let one = c.split_at in
    let two = c.split_at-2 in
    let three = c.split_at-3 in
    let four = c.split_at-4 in
    let rest = four.result.1.now in
    let last : content c.loop-x.joined ≡ fold join joined (map content rest) =
    c.loop-x.invariant ∙ ap (λ l. fold join joined (map content l)) (take_all c.loop-x.x-index rest (omega (arith, c.loop-x-test.false))) in
    in-slices content g.T.Value.is_value join (g.met.O.Operator.joins_are_values c.args.operator.now) c.requires.associative
    (content c.args.joined.now) joined (content c.loop-x.joined) (length c.args.items.now / 4) c.args.items.now one.result.0.now one.result.1.now two.result.0.now two.result.1.now three.result.0.now three.result.1.now four.result.0.now rest
    one.ensures.front one.ensures.back two.ensures.front two.ensures.back three.ensures.front three.ensures.back four.ensures.front four.ensures.back
    c.in_ok-join_slices.ensures last
