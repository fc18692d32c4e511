use Rattle.std.proofs.Common.{ℤ, List, subst}
use Rattle.pipeline_value.specs.{Typed.number_told, Value.Tells}
use Rattle.pipeline_value.proofs.numbers.number_value.Goals as goal

pub returns : goal.returns
returns g c =
    let Q : List ℤ → Type 0 = λ l. Tells (number_told c.args.terminal.now l) c.number_end.result in
    subst Q (c.in_ok-linked.ensures.means (g.X.Plumbing.value c.args.stream)) (rw (c.then.ensures.upstream, c.then.ensures.stage) at c.number_end.ensures)
