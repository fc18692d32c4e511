use Rattle.std.proofs.Common.{◌≡◌, length, ◌-◌, map, ap, sym, ◌∙◌, arith}
use Rattle.std.proofs.lemmas.List.{length-drop, drop-map}
use Rattle.sources.proofs.DifferingParts.{differ-rest}
use Rattle.sources.proofs.keys.KeysSplitPlaced.after_first.Goals as goal

pub invariant_of-result : goal.invariant_of-result
invariant_of-result g c =
    let s = c.args.self in
    let part = c.rest_of.result.now in
    let count : length part ≡ length s.keys.now - c.args.number = ap length c.rest_of.ensures ∙ length-drop c.args.number s.keys.now in
    record {
      few = omega (arith, s.few);
      differ = differ-rest g.K.PartialEq.eq c.args.number s.keys.now part c.rest_of.ensures s.differ;
    }

pub returns : goal.returns
returns g c = ap (map g.K.Value.content) c.rest_of.ensures ∙ sym (drop-map g.K.Value.content c.args.number c.args.self.keys.now)
