use Rattle.std.proofs.Common.{rules, ◌≡◌, pos, get_or, true, false, ◌∙◌, to_z, of_z, w64}
use Rattle.stream_functions.proofs.BlockSteps.{keep_step}
use Rattle.stream_functions.proofs.blocks.keep_front.Goals as goal

pub loop-i-preserved : goal.loop-i-preserved
loop-i-preserved g c =
    let l = c.loop-i in
    let p = g.P.Test.holds c.args.test in
    let x = to_z w64 (of_z w64 (get_or l.items l.i (pos 0))) in
    let is : x ≡ get_or l.items l.i (pos 0) = search rules in
    let one : p x ≡ true → c.from-kept.result ≡ 1 = λ h. let e : c.holds.result ≡ true = c.holds.ensures ∙ h in rw e at c.from-kept.ensures in
    let none : p x ≡ false → c.from-kept.result ≡ 0 = λ h. let e : c.holds.result ≡ false = c.holds.ensures ∙ h in rw e at c.from-kept.ensures in
    keep_step p c.args.items.now l.items l.i l.kept c.from-kept.result x c.loop-i-test.true l.auto.items l.invariant.0 l.invariant.1 l.invariant.2 is one none
