use Rattle.std.proofs.Common.{◌∙◌}
use Rattle.std.proofs.lemmas.List.Sorted.{ranks_by}
use Rattle.std.proofs.lemmas.Result.{on_ok_weaker}
use Rattle.std.specs.Result.{is_ok}
use Rattle.terminals.specs.FirstSorted.{key_below}
use Rattle.terminals.proofs.Behind.{bounded-pairs}
use Rattle.terminals.proofs.Inserted.{append-first}
use Rattle.terminals.proofs.first_pairs.FirstPairs.append.Goals as goal

pub invariant_of-self : goal.invariant_of-self
invariant_of-self g c = record {
  bound = bounded-pairs g.J.Value.content g.T.Value.content (key_below g.J.OrderedValue.order) (is_ok c.append.result) c.args.self.now.bounded
      c.args.self.now.pairs.items c.args.others.items _ c.args.self.now.bound c.append.ensures.items;
}

pub returns : goal.returns
returns g c =
    let value = g.J.OrderedValue in
    on_ok_weaker c.shrink.result
    (λ same. same ∙ append-first g.J.Value.content g.T.Value.content (key_below value.order) c.args.number (ranks_by value.order_total (λ p. p.0))
    c.args.self.now.pairs.items c.args.others.items _ c.in_ok-append.ensures.items)
    c.shrink.ensures
