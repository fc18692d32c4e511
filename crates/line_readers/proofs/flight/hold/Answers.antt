use Rattle.std.proofs.Common.{◌∷◌, [], ◌∙◌, IfOk, ap, ap₂, flat_map, string_bytes, subst}
use Rattle.collectors.specs.Laws.{IsContainerOf}
use Rattle.sources.specs.Lines.{text_lines}
use Rattle.line_readers.proofs.Behind.{lines-values}
use Rattle.line_readers.proofs.flight.hold.Goals as goal

pub returns : goal.returns
returns g c =
    let own = c.args.passing.now in
    let it = own.collector.now in
    let C = g.C.Collector in
    let F = g.F.LineFunction in
    let G = g.G.Stage in
    let stage = G.expand own.stage.now in
    let told = c.then-items.ensures in
    let text = ap (λ s. s.text.now) c.of-lines.ensures ∙ c.new.ensures.text ∙ c.as_str.ensures.value in
    let value =
    ap₂ (λ u s. flat_map (G.expand s.now) (flat_map (λ x. F.image u.stage.mapping.function.now x ∷ []) (text_lines u.upstream.split.text.now))) told.upstream told.stage
    ∙ ap (flat_map stage) (ap₂ (λ u m. flat_map (λ x. F.image m.function.now x ∷ []) (text_lines u.split.text.now)) c.map.ensures.upstream c.map.ensures.stage)
    ∙ ap (λ t. flat_map stage (flat_map (λ x. F.image own.function.now x ∷ []) (text_lines t))) text
    ∙ lines-values (F.image own.function.now) stage (text_lines (string_bytes c.args.text)) in
    subst (λ ms. IfOk c.container_of.result (IsContainerOf g.G.Out.Value.is_value (C.content it) (C.empty it) (C.add it) ms)) value c.container_of.ensures.made
