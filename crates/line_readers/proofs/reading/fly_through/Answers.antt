use Rattle.std.proofs.Common.{◌++◌, ◌∙◌, ap₂, flat_map, refl}
use Rattle.collectors.specs.Laws.{IsContainerOf}
use Rattle.sources.specs.Lines.{text_lines}
use Rattle.line_readers.specs.Flights.{Settles}
use Rattle.line_readers.specs.Values.{values_of}
use Rattle.line_readers.proofs.Behind.{through}
use Rattle.line_readers.proofs.Told.{same-value}
use Rattle.line_readers.proofs.reading.fly_through.Goals as goal

pub returns-clause-value : goal.returns-clause-value
returns-clause-value g c = λ before begun known block.
    let own = c.args.steps.now in
    let it = c.args.collector.now in
    let made = IsContainerOf g.Z.Out.Value.is_value (g.C.Collector.content it) (g.C.Collector.empty it) (g.C.Collector.add it) in
    let image = g.F.LineFunction.image own.function in
    let A = g.A.Stage in
    let S = g.Q.Stages.Stage in
    let Z = g.Z.Stage in
    let whole = c.new-stage.ensures in
    let front = c.new.ensures in
    same-value (λ items acc. Settles made (g.C.Collector.gives it) (before ++ items) acc) c.fly.result refl
    (λ bytes.
    ap₂ (λ f s. values_of image (λ y. flat_map (Z.expand s.now) (flat_map (S.expand f.second.now) (A.expand f.first.now y))) (text_lines bytes)) whole.first whole.second
    ∙ ap₂ (λ f s. values_of image (λ y. flat_map (Z.expand own.last) (flat_map (S.expand s.now) (A.expand f.now y))) (text_lines bytes)) front.first front.second
    ∙ through image (A.expand own.first) (S.expand own.between) (Z.expand own.last) (text_lines bytes))
    (c.fly.ensures.value before begun known block)
