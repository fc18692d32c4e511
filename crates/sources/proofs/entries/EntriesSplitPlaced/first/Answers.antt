use Rattle.std.proofs.Common.{◌≡◌, length, min, map, ap, ap₂, sym, ◌∙◌, arith}
use Rattle.std.specs.List.{zip}
use Rattle.std.proofs.lemmas.List.{length-take, take-map}
use Rattle.indexmap.proofs.ReorderLemmas.{zip-take}
use Rattle.sources.specs.Entries.{entry_contents}
use Rattle.sources.proofs.DifferingParts.{differ-front}
use Rattle.sources.proofs.entries.EntriesSplitPlaced.first.Goals as goal

pub invariant_of-result : goal.invariant_of-result
invariant_of-result g c =
    let s = c.args.self in
    let keys = c.front_of.result.now in
    let values = c.front_of-2.result.now in
    let count : length keys ≡ min c.args.most (length s.keys.now) = ap length c.front_of.ensures ∙ length-take c.args.most s.keys.now in
    let also : length values ≡ min c.args.most (length s.values.now) = ap length c.front_of-2.ensures ∙ length-take c.args.most s.values.now in
    record {
      few = omega (arith, s.few);
      paired = omega (arith, s.paired);
      differ = differ-front g.K.PartialEq.eq c.args.most s.keys.now keys c.front_of.ensures s.differ;
    }

pub returns : goal.returns
returns g c =
    let s = c.args.self in
    let n = c.args.most in
    let contents = entry_contents g.K.Value.content g.V.Value.content in
    ap₂ (λ ks vs. contents (zip ks vs)) c.front_of.ensures c.front_of-2.ensures
    ∙ ap contents (zip-take n s.keys.now s.values.now) ∙ sym (take-map _ n (zip s.keys.now s.values.now))
