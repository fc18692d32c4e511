use Rattle.std.proofs.lemmas.Grind.{common_steps}
use Rattle.std.proofs.Common.{◌≡◌, ◌≤◌, ◌<◌, ◌%◌, ◌+◌, pos, ◌+ℤ◌, drop, length, ap, ◌∙◌, arith, rules, w64, to_z, of_z}
use Rattle.std.specs.Prelude.{FitsSigned}
use Rattle.std.proofs.lemmas.Int.{ints}
use Rattle.sources.specs.Integers.{integers}
use Rattle.sources.proofs.RangeBlocks.{block_and_rest, stepped}
use Rattle.sources.proofs.range.RangeSplitSpliterator.next_block.Goals as goal

pub returns-clause-moved : goal.returns-clause-moved
returns-clause-moved c =
    let s = c.args.self.now in
    let fits : FitsSigned w64 s.next = search rules in
    let within : c.min-count.result ≤ s.left = search rules in
    let few = s.few in
    let below = s.within_type in
    let count : c.resize.new.self.len ≡ c.min-count.result = c.in_ok-resize.ensures.len in
    let first : to_z w64 (of_z w64 s.next) ≡ s.next = omega (arith, ints) in
    let written = c.write_integers.ensures ∙ ap (λ a. integers a (length c.as_mut_slice.result.now)) first ∙ ap (integers s.next) (c.as_mut_slice.ensures.len ∙ count) in
    let next : c.min-count.result < s.left → to_z w64 ((of_z w64 s.next + c.min-count.result) % 18446744073709551616) ≡ s.next +ℤ pos c.min-count.result = λ h. stepped (of_z w64 s.next) c.min-count.result s.next (omega (arith, ints)) (omega (arith, within, few)) first fits (omega (arith, ints, h, below)) in
    block_and_rest s.next _ c.min-count.result s.left _ c.write_integers.new.room (drop (length c.write_integers.new.room) c.resize.new.self.items) within count written next

-- bounded: a wrong body would search to its limit
pub returns-clause-most : goal.returns-clause-most
returns-clause-most c = grind (arith, common_steps) steps 400000
