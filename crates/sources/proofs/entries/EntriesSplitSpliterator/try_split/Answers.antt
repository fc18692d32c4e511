use Rattle.std.proofs.Common.{◌≡◌, length, min, ◌-◌, ◌/◌, ap, ap₂, refl, ◌∙◌, arith}
use Rattle.std.specs.List.{zip}
use Rattle.std.proofs.lemmas.List.{length-take, length-drop}
use Rattle.sources.specs.Entries.{entry_contents, entries-halves, length-contents}
use Rattle.sources.proofs.DifferingParts.{differ-front, differ-rest}
use Rattle.sources.proofs.entries.EntriesSplitSpliterator.try_split.Goals as goal

pub returns-then-half-eq0 : goal.returns-then-half-eq0
returns-then-half-eq0 g c =
    let s = c.args.self.now in
    let none = c.if-half-eq0.true in
    let count = length-contents g.K.Value.content g.V.Value.content s.keys.now s.values.now s.paired in
    (omega arith, refl)

pub invariant_of-self : goal.invariant_of-self
invariant_of-self g c =
    let s = c.args.self.now in
    let eq = g.K.PartialEq.eq in
    let half = length s.keys.now / 2 in
    let rest = c.split_at.result.1.now in
    let count : length rest ≡ length s.keys.now - half = ap length c.split_at.ensures.back ∙ length-drop half s.keys.now in
    let also : length c.split_at-2.result.1.now ≡ length s.values.now - half = ap length c.split_at-2.ensures.back ∙ length-drop half s.values.now in
    record {
      few = omega (arith, s.few);
      paired = omega (arith, s.paired);
      differ = differ-rest eq half s.keys.now rest c.split_at.ensures.back s.differ;
    }

pub invariant_of-result : goal.invariant_of-result
invariant_of-result g c =
    let s = c.args.self.now in
    let eq = g.K.PartialEq.eq in
    let half = length s.keys.now / 2 in
    let front = c.split_at.result.0.now in
    let count : length front ≡ min half (length s.keys.now) = ap length c.split_at.ensures.front ∙ length-take half s.keys.now in
    let also : length c.split_at-2.result.0.now ≡ min half (length s.values.now) = ap length c.split_at-2.ensures.front ∙ length-take half s.values.now in
    record {
      few = omega (arith, s.few);
      paired = omega (arith, s.paired);
      differ = differ-front eq half s.keys.now front c.split_at.ensures.front s.differ;
    }

pub returns : goal.returns
returns g c =
    let s = c.args.self.now in
    let of_keys = g.K.Value.content in
    let of_values = g.V.Value.content in
    let some = c.if-half-eq0.false in
    let halves = entries-halves of_keys of_values s.keys.now s.values.now s.paired (omega arith) in (
      halves.0,
      ap₂ (λ ks vs. entry_contents of_keys of_values (zip ks vs)) c.split_at.ensures.front c.split_at-2.ensures.front ∙ halves.1,
      ap₂ (λ ks vs. entry_contents of_keys of_values (zip ks vs)) c.split_at.ensures.back c.split_at-2.ensures.back ∙ halves.2,
    )
