use Rattle.stages.specs.Passing.{flat_map-one}
use Rattle.line_readers.specs.Values.{line_values}
use Rattle.line_readers.proofs.lines.ReadLinesLineStream.into_lines.Goals as goal

pub returns-clause-value : goal.returns-clause-value
returns-clause-value g c = λ bytes. flat_map-one (line_values (g.F.LineFunction.image c.args.self.function) (g.A.Stage.expand c.args.self.stage) bytes)
