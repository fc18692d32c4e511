use Rattle.line_readers.proofs.Told.{same-fault, same-value}
use Rattle.line_readers.proofs.stream.LineStream.collect_on.Goals as goal

pub returns-clause-faults : goal.returns-clause-faults
returns-clause-faults g c = same-fault c.collect_lines.result c.into_lines-lines.ensures.longest c.into_lines-lines.ensures.known c.collect_lines.ensures.faults

pub returns-clause-value : goal.returns-clause-value
returns-clause-value g c = same-value (g.C.Collector.gives c.args.collector.now) c.collect_lines.result c.into_lines-lines.ensures.known c.into_lines-lines.ensures.value c.collect_lines.ensures.value
