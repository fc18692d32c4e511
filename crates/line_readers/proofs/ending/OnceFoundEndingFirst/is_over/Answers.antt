use Rattle.std.proofs.Common.{sym, ap, ◌∙◌, option_map}
use Rattle.std.specs.Option.{is_some}
use Rattle.line_readers.proofs.Firsts.{first-more, some-image}
use Rattle.line_readers.proofs.ending.OnceFoundEndingFirst.is_over.Goals as goal

pub returns : goal.returns
returns g c = λ h l more values made out told.
    told ∙ sym (first-more l more (option_map g.T.Value.content c.args.acc.now) (some-image g.T.Value.content c.args.acc.now (sym c.is_some.ensures ∙ h)) made)
