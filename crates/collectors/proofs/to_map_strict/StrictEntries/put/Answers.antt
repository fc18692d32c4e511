use Rattle.std.proofs.Common.{◌∙◌, ◌≡◌, true, false, sym, ap, option_map}
use Rattle.std.proofs.lemmas.Result.{on_ok_weaker}
use Rattle.std.specs.Option.{is_some}
use Rattle.std.specs.Map.{lookup}
use Rattle.collectors.specs.Grouping.{contents}
use Rattle.collectors.proofs.StrictPuts.{put-repeat, put-new}
use Rattle.collectors.proofs.to_map_strict.StrictEntries.put.Goals as goal

pub returns-then-contains_key : goal.returns-then-contains_key
returns-then-contains_key g c =
    let es = c.args.self.now.entries.entries in
    let none : is_some c.args.self.now.repeated ≡ false = sym c.if-is_some.ensures in
    let there : is_some (lookup (g.K.PartialEq.eq c.args.entry.0) es) ≡ true = sym c.if-contains_key.ensures in
    put-repeat g.K.PartialEq.eq g.K.Value.same g.K.Value.content g.V.Value.content g.met.K.EqualValue.eq_is_same es c.args.self.now.repeated c.args.entry.0 c.args.entry.1 none there

pub returns : goal.returns
returns g c =
    let es = c.args.self.now.entries.entries in
    let none : is_some c.args.self.now.repeated ≡ false = sym c.if-is_some.ensures in
    let absent : is_some (lookup (g.K.PartialEq.eq c.args.entry.0) es) ≡ false = sym c.if-contains_key.ensures in
    on_ok_weaker c.add_entry.result
    (λ added. ap (λ es. (contents g.K.Value.content g.V.Value.content es, option_map g.K.Value.content c.args.self.now.repeated)) added
    ∙ put-new g.K.PartialEq.eq g.K.Value.same g.K.Value.content g.V.Value.content g.met.K.EqualValue.eq_is_same es c.args.self.now.repeated c.args.entry.0 c.args.entry.1 none absent)
    c.add_entry.ensures
