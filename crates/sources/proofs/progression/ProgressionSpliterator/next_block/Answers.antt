use Rattle.std.proofs.Common.{◌≡◌, ◌≤◌, ◌++◌, take, drop, length, ap, ap₂, ◌∙◌, arith, rules, w64, to_z, of_z, min}
use Rattle.sources.specs.Progressions.{progression}
use Rattle.sources.specs.ProgressionLaws.{length-progression}
use Rattle.sources.proofs.ProgressionBlocks.{block_front, block_of, nothing_left}
use Rattle.sources.proofs.progression.ProgressionSpliterator.next_block.Goals as goal

pub returns-clause-moved : goal.returns-clause-moved
returns-clause-moved c =
    let p = c.args.self.now in
    let k = c.min-count.result in
    let within : k ≤ p.left = search rules in
    let count : c.resize.new.self.len ≡ k = c.in_ok-resize.ensures.len in
    let next : to_z w64 (of_z w64 p.next) ≡ p.next = search rules in
    let step : to_z w64 (of_z w64 p.step) ≡ p.step = search rules in
    let written : c.write_steps.new.room ≡ progression p.next p.step k =
    c.write_steps.ensures ∙ ap₂ (λ a s. progression a s (length c.as_mut_slice.result.now)) next step ∙ ap (progression p.next p.step) (c.as_mut_slice.ensures.len ∙ count) in
    block_of p.next p.step p.left k c.resize.new.self.len c.write_steps.new.room (drop (length c.write_steps.new.room) c.resize.new.self.items) _ within count written c.after_first.ensures

pub returns-clause-ended : goal.returns-clause-ended
returns-clause-ended c = λ short.
    let p = c.args.self.now in
    let k = c.min-count.result in
    let least : k ≡ min p.left c.args.most = search rules in
    let count : c.resize.new.self.len ≡ k = c.in_ok-resize.ensures.len in
    let next : to_z w64 (of_z w64 p.next) ≡ p.next = search rules in
    let step : to_z w64 (of_z w64 p.step) ≡ p.step = search rules in
    let written : c.write_steps.new.room ≡ progression p.next p.step k =
    c.write_steps.ensures ∙ ap₂ (λ a s. progression a s (length c.as_mut_slice.result.now)) next step ∙ ap (progression p.next p.step) (c.as_mut_slice.ensures.len ∙ count) in
    let rest = drop (length c.write_steps.new.room) c.resize.new.self.items in
    let size : length (take c.resize.new.self.len (c.write_steps.new.room ++ rest)) ≡ k =
    ap length (block_front p.next p.step k c.resize.new.self.len c.write_steps.new.room rest count written) ∙ length-progression p.next p.step k in
    nothing_left p.next p.step p.left k _ (omega (arith, short, size, least)) c.after_first.ensures
