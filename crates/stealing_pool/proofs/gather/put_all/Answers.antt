use Rattle.std.proofs.Common.{Some, ap, length, arith}
use Rattle.stealing_pool.proofs.Places.{put_step, leaves_left}
use Rattle.stealing_pool.proofs.gather.put_all.Goals as goal

pub loop-one-preserved : goal.loop-one-preserved
loop-one-preserved g c =
    let is = c.in-Some.ensures.steps in
    let inv = c.loop-one.invariant in
    let sizes = ap length is.0 in
    (tt, tt, put_step c.loop-one.places.items c.args.ran.items _ _ c.in-Some.one c.args.places.now.items is.0 inv.2, omega arith, (leaves_left _ _ _ c.in-Some.one _ is.0 inv.4).1)

pub loop-one-preserved-in-Some : goal.loop-one-preserved-in-Some
loop-one-preserved-in-Some g c =
    let is = c.in-Some.ensures.steps in
    let inv = c.loop-one.invariant in
    let sizes = ap length is.0 in
    (tt, tt, put_step c.loop-one.places.items c.args.ran.items _ _ c.in-Some.one c.args.places.now.items is.0 inv.2, omega arith, (leaves_left _ _ _ c.in-Some.one _ is.0 inv.4).1)

pub index_mut-requires : goal.index_mut-requires
index_mut-requires g c = let within = (leaves_left _ _ _ c.in-Some.one (Some c.in-Some.one.portion) c.in-Some.ensures.steps.0 c.loop-one.invariant.4).0 in omega arith
