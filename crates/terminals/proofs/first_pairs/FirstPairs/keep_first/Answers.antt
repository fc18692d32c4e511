use Rattle.std.proofs.Common.{◌∙◌}
use Rattle.std.proofs.lemmas.List.Sorted.{ranks_by}
use Rattle.terminals.specs.FirstSorted.{key_below}
use Rattle.terminals.proofs.Behind.{first-bounded}
use Rattle.terminals.proofs.Inserted.{kept-again, kept-first}
use Rattle.terminals.proofs.first_pairs.FirstPairs.keep_first.Goals as goal

pub returns-clause-first : goal.returns-clause-first
returns-clause-first g c =
    kept-first g.J.Value.content g.T.Value.content (key_below g.J.OrderedValue.order) c.args.number c.args.self.now.pairs.items _ _
    (c.promise_sorted.ensures c.args.self.now.pairs.items c.in_ok-sort_pairs_here.ensures) c.truncate.ensures.items

pub returns-clause-same : goal.returns-clause-same
returns-clause-same g c =
    let value = g.J.OrderedValue in
    let first = kept-first g.J.Value.content g.T.Value.content (key_below value.order) c.args.number c.args.self.now.pairs.items _ _
    (c.promise_sorted.ensures c.args.self.now.pairs.items c.in_ok-sort_pairs_here.ensures) c.truncate.ensures.items in
    kept-again g.J.Value.content g.T.Value.content (key_below value.order) c.args.number (ranks_by value.order_total (λ p. p.0)) c.args.self.now.pairs.items _ first

pub invariant_of-self-2 : goal.invariant_of-self-2
invariant_of-self-2 g c =
    let value = g.J.OrderedValue in
    let first = kept-first g.J.Value.content g.T.Value.content (key_below value.order) c.args.number c.args.self.now.pairs.items _ _
    (c.promise_sorted.ensures c.args.self.now.pairs.items c.in_ok-sort_pairs_here.ensures) c.truncate.ensures.items in
    record {
      bound = first-bounded g.J.Value.content g.T.Value.content (key_below value.order) (ranks_by value.order_total (λ p. p.0)) c.len-self.result c.args.number
          c.args.self.now.pairs.items c.truncate.new.self.items first (c.len-self.ensures ∙ c.truncate.new.self.ok.0);
    }
