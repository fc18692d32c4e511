use Rattle.std.proofs.Common.{◌≡◌, ◌∙◌, sym, ap, arith, map-id}
use Rattle.std.specs.Prelude.{count_by}
use Rattle.stream_functions.proofs.BlockSteps.{kept-all, kept-none}
use Rattle.stream_functions.proofs.blocks.keep_runs.Goals as goal

pub returns-then-meeting-eq0 : goal.returns-then-meeting-eq0
returns-then-meeting-eq0 g c =
    let p = g.P.Test.holds c.args.test in
    let none : count_by p c.args.items.now.items ≡ 0 = ap (count_by p) (sym c.as_slice.ensures.value ∙ sym (map-id c.as_slice.result.now)) ∙ sym c.count_meeting-meeting.ensures ∙ c.if-meeting-eq0.true in
    c.clear.ensures.items ∙ sym (kept-none p c.args.items.now.items none)

pub returns-else-meeting-len : goal.returns-else-meeting-len
returns-else-meeting-len g c =
    let p = g.P.Test.holds c.args.test in
    let all : c.count_meeting-meeting.result ≡ count_by p c.args.items.now.items = c.count_meeting-meeting.ensures ∙ ap (count_by p) (map-id c.as_slice.result.now ∙ c.as_slice.ensures.value) in
    sym (kept-all p c.args.items.now.items (omega (arith, all, c.len.ensures, c.if-meeting-len.false)))
