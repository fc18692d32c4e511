use Rattle.std.proofs.Common.{◌+◌, ◌++◌, ap, rules}
use Rattle.std.proofs.Output.{has_written_append}
use Rattle.gates.specs.Pictures.{line}
use Rattle.gates.proofs.Pictures.{lines_next}
use Rattle.gates.proofs.picture.PictureDisplay.fmt.Goals as goal

pub loop-place-preserved : goal.loop-place-preserved
loop-place-preserved g c = λ plain.
    let so_far = c.loop-place.invariant plain in
    let first = line (c.loop-place.place + 1) c.index-entries-place.result in
    let one = c.write_line.ensures so_far.1.plain (search rules) in (
      so_far.0 ++ first,
      has_written_append _ _ _ _ _ _ so_far.1 one,
      lines_next c.entries-entries.result.now c.loop-place.place c.index-entries-place.result so_far.0 first _ c.loop-place-test.true (ap (line (c.loop-place.place + 1)) c.index-entries-place.is) so_far.2,
    )
