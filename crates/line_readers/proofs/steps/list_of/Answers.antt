use Rattle.std.proofs.Common.{◌≡◌, ◌∷◌, [], ◌∙◌, ap, ap₂, flat_map, map, string_bytes, subst}
use Rattle.std.specs.Prelude.{IfOk}
use Rattle.sources.specs.Lines.{text_lines}
use Rattle.line_readers.proofs.Behind.{lines-values}
use Rattle.line_readers.proofs.steps.list_of.Goals as goal

pub returns : goal.returns
returns g c =
    let F = g.F.LineFunction in
    let A = g.A.Stage in
    let first = A.expand c.args.first.now in
    let told = c.then-stream.ensures in
    let text = ap (λ s. s.text.now) c.of-lines.ensures ∙ c.new.ensures.text ∙ c.as_str.ensures.value in
    let value =
    ap₂ (λ u s. flat_map (A.expand s.now) (flat_map (λ x. F.image u.stage.mapping.function.now x ∷ []) (text_lines u.upstream.split.text.now))) told.upstream told.stage
    ∙ ap (flat_map first) (ap₂ (λ u m. flat_map (λ x. F.image m.function.now x ∷ []) (text_lines u.split.text.now)) c.map.ensures.upstream c.map.ensures.stage)
    ∙ ap (λ t. flat_map first (flat_map (λ x. F.image c.args.function.now x ∷ []) (text_lines t))) text
    ∙ lines-values (F.image c.args.function.now) first (text_lines (string_bytes c.args.text)) in
    subst (λ ms. IfOk c.collect_on.result (λ list. map g.A.Out.Value.content list.items ≡ ms)) value c.collect_on.ensures.value
