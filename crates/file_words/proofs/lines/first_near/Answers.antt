use Rattle.std.proofs.Common.{◌≤◌, eqb, length, arith, w8}
use Rattle.std.specs.Simd.Lanes.{chunk}
use Rattle.std.proofs.lemmas.Simd.{bitmask_splat, length-chunk}
use Rattle.file_words.proofs.LineLemmas.{near_found}
use Rattle.file_words.proofs.lines.first_near.Goals as goal

pub returns-then-marks-ne0 : goal.returns-then-marks-ne0
returns-then-marks-ne0 c =
    let bytes = c.args.bytes.now in
    let byte = c.args.byte in
    let room : 32 ≤ length bytes = omega (arith, c.if-bytes-ge-LANES.true) in
    near_found 32 byte bytes _ (omega arith) room (bitmask_splat w8 eqb (chunk 0 32 bytes) 32 byte (length-chunk 0 32 bytes (omega (arith, room))) (omega arith)) (omega (arith, c.if-marks-ne0.true))
