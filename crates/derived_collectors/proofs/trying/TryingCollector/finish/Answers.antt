use Rattle.std.proofs.Common.{ap, sym, ◌∙◌}
use Rattle.std.specs.Result.{result_map_both}
use Rattle.derived_collectors.specs.TriedLaws.{ok_of, err_of}
use Rattle.derived_collectors.proofs.trying.TryingCollector.finish.Goals as goal

pub returns-in_ok-finish-in-Ok : goal.returns-in_ok-finish-in-Ok
returns-in_ok-finish-in-Ok g c = λ l values made.
    let D = g.D.Collector in
    let down = c.args.self.now.downstream in
    let seen = sym (ap (result_map_both (D.content down) g.E.Value.content) c.in-Ok.is) ∙ made in
    let of = ok_of (D.add down) g.D.Item.Value.is_value g.E.Value.is_value (D.empty down) l (D.content down c.in-Ok.acc) values seen in
    ((of.0, of.1, c.in_ok-finish-in-Ok.ensures of.0 of.2 of.3), tt)

pub returns-in-Err : goal.returns-in-Err
returns-in-Err g c = λ l values made.
    let D = g.D.Collector in
    let down = c.args.self.now.downstream in
    let seen = sym (ap (result_map_both (D.content down) g.E.Value.content) c.in-Err.is) ∙ made in
    (tt, err_of (D.add down) g.D.Item.Value.is_value g.E.Value.is_value (D.empty down) l (g.E.Value.content c.in-Err.error) seen)
