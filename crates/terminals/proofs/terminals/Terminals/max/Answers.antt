use Rattle.std.proofs.Common.{option_map}
use Rattle.std.proofs.lemmas.Result.{IfOk-weaker}
use Rattle.terminals.proofs.Best.{greatest}
use Rattle.terminals.proofs.terminals.Terminals.max.Goals as goal

pub returns : goal.returns
returns g c =
    let value = g.Self.Item.OrderedValue in
    let content = g.Self.Item.Value.content in
    record {
      value = IfOk-weaker c.reduce_optional_on.result _ _
          (λ found made. greatest value.order value.order_total (g.Self.Plumbing.value c.args.self.now) (option_map content found) made)
          c.reduce_optional_on.ensures;
    }
