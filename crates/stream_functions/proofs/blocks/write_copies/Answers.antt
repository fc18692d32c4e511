use Rattle.std.proofs.Common.{rules, arith, ◌≡◌, ◌≤◌, ◌+◌, ◌*◌, length, ◌∙◌, ap, sym, get_or, take, flat_map, refl, pos}
use Rattle.std.proofs.Math.ListN.{replicate}
use Rattle.std.proofs.lemmas.List.{length-take-le}
use Rattle.stream_functions.proofs.CopySteps.{four-more, next-end, number-more, room-left}
use Rattle.stream_functions.proofs.blocks.write_copies.Goals as goal

pub loop-place-preserved : goal.loop-place-preserved
loop-place-preserved c =
    let l = c.loop-place in
    let gone = c.args.number * c.loop-x.x-index in
    let x = get_or c.args.items.now c.loop-x.x-index (pos 0) in
    let front = flat_map (replicate c.args.number) (take c.loop-x.x-index c.args.items.now) in
    let enough = room-left c.args.number c.loop-x.x-index (length c.args.items.now) (length c.args.room.now) c.loop-x-test.true c.requires in
    let within : l.place ≤ length l.room = omega (arith, enough, c.loop-place-test.true, l.invariant.0, l.auto.room, c.loop-x.auto.room) in
    let written : c.copy_from_slice.new.self ≡ replicate 4 x = search rules in
    (l.invariant.0, omega (arith, l.invariant.1), omega (arith, c.loop-place-test.true), four-more l.room c.copy_from_slice.new.self front l.place gone x l.invariant.1 within written l.invariant.3)

pub loop-x-preserved : goal.loop-x-preserved
loop-x-preserved c =
    let l = c.loop-place in
    let i = c.loop-x.x-index in
    let n = c.args.number in
    let front = flat_map (replicate n) (take i c.args.items.now) in
    let enough = room-left n i (length c.args.items.now) (length c.args.room.now) c.loop-x-test.true c.requires in
    let long : c.loop-x.end ≤ length c.loop-x.room = omega (arith, enough, c.loop-x.invariant.0, c.loop-x.auto.room) in
    let size : length front ≡ n * i = sym (ap length c.loop-x.invariant.1) ∙ length-take-le c.loop-x.end c.loop-x.room long ∙ c.loop-x.invariant.0 in (
      l.invariant.0 ∙ next-end n i,
      number-more n i l.place (c.loop-x.end + n) c.args.items.now l.room front _ c.loop-x-test.true refl l.invariant.0 c.loop-place-test.false refl size l.invariant.3,
    )
