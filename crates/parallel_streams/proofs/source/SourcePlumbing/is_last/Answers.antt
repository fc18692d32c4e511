use Rattle.std.proofs.Common.{rules}
use Rattle.parallel_streams.proofs.Stack.{weight-some}
use Rattle.parallel_streams.proofs.source.SourcePlumbing.is_last.Goals as goal

pub returns-clause-later : goal.returns-clause-later
returns-clause-later g c = λ is. weight-some g.S.Spliterator.weight c.args.progress.now.rest.items (search (rules, is))
