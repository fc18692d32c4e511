use Rattle.std.proofs.Common.{◌≡◌, ◌+◌, [], ◌++◌, min, arith, rules}
use Rattle.std.proofs.Output.{has_written_append, has_written_of_eq}
use Rattle.gates.specs.Pictures.{row}
use Rattle.gates.proofs.Pictures.{all_left, left_behind, none_left}
use Rattle.gates.proofs.picture.write_marks.Goals as goal

pub loop-begin-init : goal.loop-begin-init
loop-begin-init g c = (omega arith, λ plain. ([], search rules, all_left c.args.entry.now c.args.size c.requires))

pub loop-begin-preserved : goal.loop-begin-preserved
loop-begin-preserved g c =
    let run = c.args.entry.now in
    let leaves = c.leaves-leaves.ensures in
    let fits = c.leaves-leaves.auto in
    let sum = c.saturating_add.ensures in
    let least = c.min-end.ensures in
    let end_is : c.min-end.result ≡ min (c.loop-begin.begin + c.args.size) run.leaves = omega arith in (
      omega arith,
      λ plain.
          let so_far = c.loop-begin.invariant.1 plain in
          let one = c.in_ok-write_str.ensures.writes so_far.1.plain (search rules) in
          let two = c.in_ok-write_str-2.ensures.writes one.plain (search rules) in (
            so_far.0 ++ (c.mark_of.result.now ++ c.bar_of.result.now),
            has_written_append _ _ _ _ _ _ so_far.1 (has_written_append _ _ _ _ _ _ one two),
            left_behind run c.args.size c.loop-begin.begin so_far.0 _ c.min-end.result _ (omega arith) end_is (λ i. c.mark_of.ensures i ++ c.bar_of.ensures i) so_far.2,
          ),
    )

pub returns : goal.returns
returns g c = λ plain _.
    let so_far = c.loop-begin.invariant.1 plain in
    has_written_of_eq _ _ _ (row c.args.entry.now c.args.size) _ (none_left c.args.entry.now c.args.size c.loop-begin.begin so_far.0 _ (omega (arith, c.leaves-leaves.ensures, c.loop-begin-test.false)) so_far.2) so_far.1
