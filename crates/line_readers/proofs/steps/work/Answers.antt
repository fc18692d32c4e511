use Rattle.std.proofs.Common.{◌++◌, List, flat_map, map, string_bytes, subst}
use Rattle.sources.specs.Lines.{text_lines}
use Rattle.line_readers.specs.Values.{GoesOn, values_of}
use Rattle.line_readers.proofs.Behind.{passes-on, taken-more}
use Rattle.line_readers.proofs.steps.work.Goals as goal

pub returns-then-lets_pass : goal.returns-then-lets_pass
returns-then-lets_pass g c = λ whole l taken.
    let own = c.args.steps.now in
    let state = c.args.taken.1 in
    let stages = g.Q.Stages.Stage.expand own.between in
    let lines = text_lines (string_bytes c.args.text) in
    let image = g.F.LineFunction.image own.function in
    let first = g.A.Stage.expand own.first in
    let items = values_of image first lines in
    taken-more image first l taken lines (flat_map stages items) c.in_ok-acc.acc state (passes-on (g.Q.Between.value_behind own.barriers own.between state) stages (c.lets_pass.ensures.passes c.if-lets_pass.true own.between) items) c.in_ok-acc.ensures

pub returns : goal.returns
returns g c = λ whole l taken.
    let own = c.args.steps.now in
    let behind = g.Q.Between.value_behind own.barriers own.between in
    let later = c.carry.new.state in
    let kept = map g.Q.Out.Value.content c.in_ok-kept.kept.items in
    let on = subst (λ came. GoesOn (behind c.args.taken.1) (behind later) came kept) c.in_ok-items.ensures c.in_ok-kept.ensures in
    taken-more (g.F.LineFunction.image own.function) (g.A.Stage.expand own.first) l taken (text_lines (string_bytes c.args.text)) kept c.in_ok-acc-2.acc later on (rw c.as_slice.ensures.value at c.in_ok-acc-2.ensures)
