use Rattle.std.proofs.Common.{◌∙◌, ap, sym, pos}
use Rattle.std.proofs.lemmas.List.{length-map}
use Rattle.stages.specs.Wrapping.{wrapped}
use Rattle.derived_collectors.specs.Facts.{facts_of}
use Rattle.derived_collectors.proofs.summarizing.SummarizingCollector.finish.Goals as goal

pub returns : goal.returns
returns g c = λ l values made.
    let image = g.M.Mapping.image c.args.self.now.number in
    let facts = made ∙ facts_of image l in
    record {
      count = ap (λ f. f.0.0) facts ∙ ap (λ n. wrapped (pos n)) (sym (length-map l image));
      sum = ap (λ f. f.0.1) facts;
      least = ap (λ f. f.1.0) facts;
      greatest = ap (λ f. f.1.1) facts;
    }
