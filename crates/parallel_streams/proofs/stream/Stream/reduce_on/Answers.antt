use Rattle.std.proofs.Common.{◌∙◌, ap, sym, option_map}
use Rattle.collectors.specs.Reductions.{reduced}
use Rattle.parallel_streams.proofs.Firsts.{fold-reduced_some, fold-reduced_none}
use Rattle.parallel_streams.proofs.stream.Stream.reduce_on.Goals as goal

pub returns-in-Some : goal.returns-in-Some
returns-in-Some g c =
    let whole = g.Self.Plumbing.value c.args.self.now in
    let made = c.in_ok-acc.ensures.made in
    let content = g.Self.Item.Value.content in
    let join = g.O.Operator.join c.args.operator.now in
    let some = ap (option_map content) (sym c.in-Some.is) ∙ c.in_ok-joined.ensures whole made ∙ ap (λ r. reduced (g.O.Operator.join r.now) whole) c.new-reducing.ensures in
    fold-reduced_some g.Self.Item.Value.is_value join (content c.args.identity) c.requires.identity whole (content c.in-Some.joined) made.0 some

pub returns-in-None : goal.returns-in-None
returns-in-None g c =
    let whole = g.Self.Plumbing.value c.args.self.now in
    let made = c.in_ok-acc.ensures.made in
    let content = g.Self.Item.Value.content in
    let join = g.O.Operator.join c.args.operator.now in
    let none = ap (option_map content) (sym c.in-None.is) ∙ c.in_ok-joined.ensures whole made ∙ ap (λ r. reduced (g.O.Operator.join r.now) whole) c.new-reducing.ensures in
    fold-reduced_none g.Self.Item.Value.is_value join (content c.args.identity) c.requires.identity whole none
