use Rattle.std.proofs.Common.{◌++◌, ◌∙◌, ap, ap₂, append-nil}
use Rattle.std.proofs.lemmas.Result.{IfOk-weaker}
use Rattle.collectors.specs.Reductions.{delimited}
use Rattle.terminals.proofs.terminals.Terminals.joining.Goals as goal

pub returns : goal.returns
returns g c =
    let texts = g.Self.Plumbing.value c.args.self.now in
    let by = c.new.result in
    let made = c.new.ensures in
    record {
      value = IfOk-weaker c.collect_on.result _ _
          (λ text gives. gives
          ∙ ap₂ (λ prefix suffix. prefix ++ delimited by.delimiter.now texts ++ suffix) made.prefix made.suffix
          ∙ append-nil (delimited by.delimiter.now texts)
          ∙ ap (λ between. delimited between texts) made.delimiter)
          c.collect_on.ensures.value;
    }
