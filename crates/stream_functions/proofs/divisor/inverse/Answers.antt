use Rattle.std.proofs.Common.{arith, ◌≡◌, ◌≤◌, ◌+◌, ◌%◌, ◌*◌, ◌^◌, ◌∙◌, ap, sym, suc}
use Rattle.std.proofs.Math.Nat.{pow-suc}
use Rattle.std.proofs.Math.Pow.{pow_mono}
use Rattle.stream_functions.proofs.Inverses.{inverse_step, squared}
use Rattle.stream_functions.proofs.divisor.inverse.Goals as goal

pub loop-step-preserved : goal.loop-step-preserved
loop-step-preserved c =
    let l = c.loop-step in
    let few : 2 ^ l._step ≤ 2 ^ 5 = pow_mono {i = l._step} {j = 5} (omega arith) in
    let twice : 2 ^ l._step + 2 ^ l._step ≡ 2 ^ (l._step + 1) = omega (arith, pow-suc 2 l._step, ap (λ n. 2 ^ n) (let e : l._step + 1 ≡ suc l._step = omega arith in e)) in (
      inverse_step (2 ^ 64) c.args.odd l.inverse l.rest l.invariant.0,
      ap (λ e. l.rest * l.rest % 2 ^ 64 % 2 ^ e) (sym twice) ∙ squared (2 ^ l._step) l.rest (omega (arith, few)) l.invariant.1,
    )
