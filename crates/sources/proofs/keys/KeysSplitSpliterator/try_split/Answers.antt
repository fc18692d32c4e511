use Rattle.std.proofs.Common.{◌≡◌, length, min, ◌-◌, ◌/◌, ap, ◌∙◌, arith}
use Rattle.std.proofs.lemmas.List.{length-take, length-drop}
use Rattle.sources.proofs.DifferingParts.{differ-front, differ-rest}
use Rattle.sources.proofs.keys.KeysSplitSpliterator.try_split.Goals as goal

pub invariant_of-self : goal.invariant_of-self
invariant_of-self g c =
    let s = c.args.self.now in
    let eq = g.K.PartialEq.eq in
    let half = length s.keys.now / 2 in
    let rest = c.split_at.result.1.now in
    let count : length rest ≡ length s.keys.now - half = ap length c.split_at.ensures.back ∙ length-drop half s.keys.now in
    record {
      few = omega (arith, s.few);
      differ = differ-rest eq half s.keys.now rest c.split_at.ensures.back s.differ;
    }

pub invariant_of-result : goal.invariant_of-result
invariant_of-result g c =
    let s = c.args.self.now in
    let eq = g.K.PartialEq.eq in
    let half = length s.keys.now / 2 in
    let front = c.split_at.result.0.now in
    let count : length front ≡ min half (length s.keys.now) = ap length c.split_at.ensures.front ∙ length-take half s.keys.now in
    record {
      few = omega (arith, s.few);
      differ = differ-front eq half s.keys.now front c.split_at.ensures.front s.differ;
    }
