use Rattle.std.proofs.Common.{◌∙◌, sym, ap, subst, option_map}
use Rattle.collectors.specs.Grouping.{contents}
use Rattle.collectors.specs.StrictMapLaws.{IsMade, strict_map_made}
use Rattle.collectors.proofs.to_map_strict.ToMapStrictCollector.finish.Goals as goal

pub returns-in-Some : goal.returns-in-Some
returns-in-Some g c = λ l values made.
    let key = g.K.Mapping.image c.args.self.now.key in
    let value = g.V.Mapping.image c.args.self.now.value in
    let es = contents g.K.Out.Value.content g.V.Out.Value.content c.args.acc.entries.entries in (
      tt,
      subst (λ s. IsMade g.K.Out.Value.same key value g.met.K.Out.Value.same_decides l s.0 s.1)
          (sym made ∙ ap (λ r. (es, option_map g.K.Out.Value.content r)) c.in-Some.is)
          (strict_map_made g.K.Out.Value.same key value g.met.K.Out.Value.same_decides l),
    )

pub returns-in-None : goal.returns-in-None
returns-in-None g c = λ l values made.
    let key = g.K.Mapping.image c.args.self.now.key in
    let value = g.V.Mapping.image c.args.self.now.value in
    let es = contents g.K.Out.Value.content g.V.Out.Value.content c.args.acc.entries.entries in (
      subst (λ s. IsMade g.K.Out.Value.same key value g.met.K.Out.Value.same_decides l s.0 s.1)
          (sym made ∙ ap (λ r. (es, option_map g.K.Out.Value.content r)) c.in-None.is)
          (strict_map_made g.K.Out.Value.same key value g.met.K.Out.Value.same_decides l),
      tt,
    )
