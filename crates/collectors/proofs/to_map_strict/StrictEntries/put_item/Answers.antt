use Rattle.std.proofs.Common.{◌∙◌, ap₂, option_map}
use Rattle.std.proofs.lemmas.Result.{on_ok_weaker}
use Rattle.collectors.specs.Grouping.{contents}
use Rattle.collectors.specs.StrictMaps.{strict_put}
use Rattle.collectors.proofs.to_map_strict.StrictEntries.put_item.Goals as goal

pub returns-then-is_none-clause-added : goal.returns-then-is_none-clause-added
returns-then-is_none-clause-added g c =
    let es = contents g.K.Value.content g.V.Value.content c.args.self.now.entries.entries in
    let repeat = option_map g.K.Value.content c.args.self.now.repeated in
    on_ok_weaker c.put.result
    (λ put. put ∙ ap₂ (λ k v. strict_put g.K.Value.same es repeat (k, v)) c.in_ok-entry.ensures.key c.in_ok-entry.ensures.value)
    c.put.ensures
