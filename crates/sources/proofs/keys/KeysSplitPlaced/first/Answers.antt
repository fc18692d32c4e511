use Rattle.std.proofs.Common.{◌≡◌, length, min, map, ap, sym, ◌∙◌, arith}
use Rattle.std.proofs.lemmas.List.{length-take, take-map}
use Rattle.sources.proofs.DifferingParts.{differ-front}
use Rattle.sources.proofs.keys.KeysSplitPlaced.first.Goals as goal

pub invariant_of-result : goal.invariant_of-result
invariant_of-result g c =
    let s = c.args.self in
    let part = c.front_of.result.now in
    let count : length part ≡ min c.args.most (length s.keys.now) = ap length c.front_of.ensures ∙ length-take c.args.most s.keys.now in
    record {
      few = omega (arith, s.few);
      differ = differ-front g.K.PartialEq.eq c.args.most s.keys.now part c.front_of.ensures s.differ;
    }

pub returns : goal.returns
returns g c = ap (map g.K.Value.content) c.front_of.ensures ∙ sym (take-map g.K.Value.content c.args.most c.args.self.keys.now)
