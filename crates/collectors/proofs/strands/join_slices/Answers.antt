use Rattle.std.proofs.Common.{◌<◌, ◌∙◌, fold, map, length, arith}
use Rattle.collectors.proofs.StrandLaws.{is-some, folded-value, first-strand, strand-next, four-slices}
use Rattle.collectors.proofs.strands.join_slices.Goals as goal

pub returns : goal.returns
returns g c =
    let content = g.T.Value.content in
    let is_value = g.T.Value.is_value in
    let join = g.O.Operator.join c.args.operator.now in
    let joins = g.met.O.Operator.joins_are_values c.args.operator.now in
    let associative = c.requires.associative in
    let some : 0 < length c.args.a.now = is-some c.args.a.now c.is_empty.result c.is_empty.ensures c.if-is_empty.false in
    let begun = c.in_ok-strands.strands in
    let rows = c.join_rows.new.strands in
    let j = content c.args.joined.now in
    let a_items = map content c.args.a.now in
    let b_items = map content c.args.b.now in
    let c_items = map content c.args.c.now in
    let a = fold join j a_items in
    let ab = fold join a b_items in
    let abc = fold join ab c_items in
    let a_value = folded-value is_value join joins associative j a_items c.is_value-value.ensures.value c.are_values.ensures in
    let ab_value = folded-value is_value join joins associative a b_items a_value c.are_values-2.ensures in
    let abc_value = folded-value is_value join joins associative ab c_items ab_value c.are_values-3.ensures in
    let next = strand-next content is_value join joins associative in
    let one = first-strand content is_value join joins associative j (content begun.first) (content rows.first) c.index-a-0.result c.args.a.now some
    c.in_ok-strands.ensures.first c.index-a-0.is c.in_ok-join_rows.ensures.first in
    let two = next a (content rows.first) (content begun.second) (content rows.second) (content c.join_into.new.joined) c.index-b-0.result c.args.b.now (omega (arith, some, c.requires.b))
    a_value c.are_values-2.ensures c.in_ok-strands.ensures.second c.index-b-0.is c.in_ok-join_rows.ensures.second one c.in_ok-join_into.ensures in
    let three = next ab (content c.join_into.new.joined) (content begun.third) (content rows.third) (content c.join_into-2.new.joined) c.index-c-0.result c.args.c.now (omega (arith, some, c.requires.c))
    ab_value c.are_values-3.ensures c.in_ok-strands.ensures.third c.index-c-0.is c.in_ok-join_rows.ensures.third two c.in_ok-join_into-2.ensures in
    let four = next abc (content c.join_into-2.new.joined) (content begun.fourth) (content rows.fourth) (content c.join_into-3.new.joined) c.index-d-0.result c.args.d.now (omega (arith, some, c.requires.d))
    abc_value c.are_values-4.ensures c.in_ok-strands.ensures.fourth c.index-d-0.is c.in_ok-join_rows.ensures.fourth three c.in_ok-join_into-3.ensures in
    four ∙ four-slices content is_value join joins associative j c.args.a.now c.args.b.now c.args.c.now c.args.d.now
