use Rattle.std.proofs.Common.{◌∙◌, ◌∷◌, []}
use Rattle.std.proofs.lemmas.Result.{on_ok_weaker}
use Rattle.std.specs.Result.{is_ok}
use Rattle.terminals.specs.FirstSorted.{key_below}
use Rattle.terminals.proofs.Behind.{bounded-pairs}
use Rattle.terminals.proofs.Inserted.{put-first}
use Rattle.terminals.proofs.first_pairs.FirstPairs.put.Goals as goal

pub invariant_of-self : goal.invariant_of-self
invariant_of-self g c = record {
  bound = bounded-pairs g.J.Value.content g.T.Value.content (key_below g.J.OrderedValue.order) (is_ok c.push.result) c.args.self.now.bounded
      c.args.self.now.pairs.items (c.args.pair ∷ []) _ c.args.self.now.bound c.push.ensures.items;
}

pub returns : goal.returns
returns g c =
    on_ok_weaker c.shrink.result
    (λ same. same ∙ put-first g.J.Value.content g.T.Value.content (key_below g.J.OrderedValue.order) c.args.number c.args.self.now.pairs.items _ c.args.pair c.in_ok-push.ensures.items)
    c.shrink.ensures
