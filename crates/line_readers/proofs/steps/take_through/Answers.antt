use Rattle.std.proofs.Common.{◌++◌, ◌∷◌, [], ◌∙◌, IfOk, List, ap, ap₂, flat_map, string_bytes, subst}
use Rattle.collectors.specs.Laws.{IsContainerOf}
use Rattle.sources.specs.Lines.{text_lines}
use Rattle.line_readers.proofs.Behind.{lines-values}
use Rattle.line_readers.proofs.steps.take_through.Goals as goal

pub returns : goal.returns
returns g c = λ l made.
    let it = c.args.collector.now in
    let C = g.C.Collector in
    let F = g.F.LineFunction in
    let A = g.A.Stage in
    let S = g.Q.Stages.Stage in
    let Z = g.Z.Stage in
    let steps = c.args.steps.now in
    let first = flat_map (A.expand steps.first) in
    let behind = λ (items : List g.row.A-Out-Content.Denot). flat_map (Z.expand steps.last) (flat_map (S.expand steps.between) items) in
    let text = ap (λ s. s.text.now) c.of-lines.ensures ∙ c.new.ensures.text ∙ c.as_str.ensures.value in
    let value =
    ap behind (ap₂ (λ u s. flat_map (A.expand s.now) (flat_map (λ x. F.image u.stage.mapping.function.now x ∷ []) (text_lines u.upstream.split.text.now)))
    c.then-items.ensures.upstream c.then-items.ensures.stage)
    ∙ ap (λ items. behind (first items)) (ap₂ (λ u m. flat_map (λ x. F.image m.function.now x ∷ []) (text_lines u.split.text.now)) c.map.ensures.upstream c.map.ensures.stage)
    ∙ ap (λ t. behind (first (flat_map (λ x. F.image steps.function x ∷ []) (text_lines t)))) text
    ∙ ap behind (lines-values (F.image steps.function) (A.expand steps.first) (text_lines (string_bytes c.args.text))) in
    subst (λ ms. IfOk c.take_staged.result (IsContainerOf g.Z.Out.Value.is_value (C.content it) (C.empty it) (C.add it) ms)) (ap (λ v. l ++ v) value)
    (c.take_staged.ensures l made)
