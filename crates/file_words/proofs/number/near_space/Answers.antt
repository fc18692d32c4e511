use Rattle.std.proofs.Common.{◌≤◌, eqb, length, arith, w8}
use Rattle.std.specs.Simd.Lanes.{chunk}
use Rattle.std.proofs.lemmas.Simd.{bitmask_splat, length-chunk}
use Rattle.file_words.proofs.LineLemmas.{near_found}
use Rattle.file_words.proofs.number.near_space.Goals as goal

pub returns : goal.returns
returns c =
    let line = c.args.line.now in
    let room : 16 ≤ length line = omega (arith, c.if-line-lt-NEAR.false) in
    near_found 16 32 line _ (omega arith) room (bitmask_splat w8 eqb (chunk 0 16 line) 16 32 (length-chunk 0 16 line (omega (arith, room))) (omega arith)) (omega (arith, c.if-spaces-eq0.false))
