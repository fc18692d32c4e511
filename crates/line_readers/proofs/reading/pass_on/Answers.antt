use Rattle.collectors.specs.Laws.{IsContainerOf}
use Rattle.line_readers.proofs.Behind.{Way, if-given, passing-given}
use Rattle.line_readers.proofs.reading.pass_on.Goals as goal

pub returns-clause-value : goal.returns-clause-value
returns-clause-value g c = λ whole all known folded block.
    let own = c.args.steps.now in
    let it = c.args.collector.now in
    let made = IsContainerOf g.Z.Out.Value.is_value (g.C.Collector.content it) (g.C.Collector.empty it) (g.C.Collector.add it) in
    let way : Way g.row.F-Out-Content.Denot g.row.A-Out-Content.Denot g.row.Q-Out-Content.Denot g.row.Z-Out-Content.Denot g.row.Q-State.Denot = record {
      image = g.F.LineFunction.image own.function;
      first = g.A.Stage.expand own.first;
      whole = whole;
      behind = g.Q.Between.value_behind own.barriers own.between;
      last = g.Z.Stage.expand own.last;
    } in
    if-given (λ l. made l c.in_ok-whole.whole) c.finish_lines.result c.finish_lines.ensures.value (λ out finished.
    passing-given way made (g.C.Collector.gives it) out c.args.taken c.in_ok-whole.whole (g.Q.Stages.Stage.expand own.between) c.requires.passes finished all known folded
    (λ before is. c.in_ok-whole.ensures.value before is known block))
