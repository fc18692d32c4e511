use Rattle.std.proofs.Common.{sym, ◌∙◌}
use Rattle.derived_collectors.proofs.Held.{decided-held}
use Rattle.derived_collectors.proofs.deciding.TryingDeciding.is_decided.Goals as goal

pub returns : goal.returns
returns g c = λ h l more values made out told.
    let D = g.D.Collector in
    let down = c.args.self.now.downstream in
    decided-held (D.add down) g.D.Item.Value.is_value g.E.Value.is_value (D.empty down) (D.content down) g.E.Value.content (D.gives down) c.args.acc.now (sym c.is_err.ensures.value ∙ h) l more values made out told
