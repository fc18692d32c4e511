use Rattle.std.proofs.Common.{◌≡◌, length, ◌-◌, map, ap, ap₂, sym, ◌∙◌, arith}
use Rattle.std.specs.List.{zip}
use Rattle.std.proofs.lemmas.List.{length-drop, drop-map}
use Rattle.indexmap.proofs.ReorderLemmas.{zip-drop}
use Rattle.sources.specs.Entries.{entry_contents}
use Rattle.sources.proofs.DifferingParts.{differ-rest}
use Rattle.sources.proofs.entries.EntriesSplitPlaced.after_first.Goals as goal

pub invariant_of-result : goal.invariant_of-result
invariant_of-result g c =
    let s = c.args.self in
    let keys = c.rest_of.result.now in
    let values = c.rest_of-2.result.now in
    let count : length keys ≡ length s.keys.now - c.args.number = ap length c.rest_of.ensures ∙ length-drop c.args.number s.keys.now in
    let also : length values ≡ length s.values.now - c.args.number = ap length c.rest_of-2.ensures ∙ length-drop c.args.number s.values.now in
    record {
      few = omega (arith, s.few);
      paired = omega (arith, s.paired);
      differ = differ-rest g.K.PartialEq.eq c.args.number s.keys.now keys c.rest_of.ensures s.differ;
    }

pub returns : goal.returns
returns g c =
    let s = c.args.self in
    let n = c.args.number in
    let contents = entry_contents g.K.Value.content g.V.Value.content in
    ap₂ (λ ks vs. contents (zip ks vs)) c.rest_of.ensures c.rest_of-2.ensures
    ∙ ap contents (zip-drop n s.keys.now s.values.now s.paired) ∙ sym (drop-map _ n (zip s.keys.now s.values.now))
