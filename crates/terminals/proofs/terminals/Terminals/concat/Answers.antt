use Rattle.std.proofs.Common.{◌++◌}
use Rattle.terminals.proofs.terminals.Terminals.concat.Goals as goal

pub returns : goal.returns
returns g c =
    let first = g.Self.Plumbing.value c.args.self.now in
    let second = g.B.Plumbing.value c.args.second.now in
    c.finish_on.ensures (first ++ second) (c.in_ok-fold_into.ensures.folded first c.in_ok-whole.ensures.made)
