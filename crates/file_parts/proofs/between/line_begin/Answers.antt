use Rattle.std.proofs.Common.{rules}
use Rattle.file_parts.proofs.Found.{found-known}
use Rattle.file_parts.proofs.between.line_begin.Goals as goal

pub returns-in-Some-checked_add : goal.returns-in-Some-checked_add
returns-in-Some-checked_add g c = found-known (g.P.PlacedBytes.bytes c.args.bytes.now) (g.P.Reader.Read.remaining c.in_ok-read_from.field-0) c.args.place c.in-Some.before c.in_ok-count.count c.in-Some-checked_add.found (search rules) (search rules) (search rules) (search rules)
