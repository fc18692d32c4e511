use Rattle.std.proofs.Common.{◌++◌, Ok, ap, append-nil, map-id, sym, ◌∙◌, ◌≡◌}
use Rattle.pipeline_language.specs.declared.grammar.Joint.TheVariants.{Plain, Within}
use Rattle.pipeline_language.specs.declared.grammar.Terminal.TheVariants.{Own}
use Rattle.collectors.specs.Reductions.{delimited}
use Rattle.pipeline_value.proofs.text_end.plain_end.Goals as goal

pub returns-in-Whole : goal.returns-in-Whole
returns-in-Whole g c = rw c.in-Whole.is (rw c.requires.spelling at c.whole_value.ensures)

pub returns-in-Match : goal.returns-in-Match
returns-in-Match g c = rw c.in-Match.is (rw c.of.ensures at c.match_value.ensures)

pub returns-in_ok-collect_on-in-Own-Plain : goal.returns-in_ok-collect_on-in-Own-Plain
returns-in_ok-collect_on-in-Own-Plain g c =
    let outer : c.args.terminal.now ≡ Own c.in-Own-Plain.field-0 = c.in-Own-Plain.is in
    let inner : c.in-Own-Plain.field-0 ≡ Plain c.in-Own-Plain.between = rw outer at c.in-Own-Plain.field-0-is in
    let made = rw (c.requires.spelling, c.new.ensures.front, c.new.ensures.between, c.new.ensures.back) at c.in_ok-collect_on-in-Own-Plain.ensures.value in
    rw (outer, inner) (ap Ok (sym (made ∙ append-nil _ ∙ ap (delimited c.in-Own-Plain.between.now) (map-id (g.X.Plumbing.value c.args.stream.now)))))

pub returns-in_ok-collect_on-in-Own-Within : goal.returns-in_ok-collect_on-in-Own-Within
returns-in_ok-collect_on-in-Own-Within g c =
    let outer : c.args.terminal.now ≡ Own c.in-Own-Within.field-0 = c.in-Own-Within.is in
    let inner : c.in-Own-Within.field-0 ≡ Within c.in-Own-Within.between c.in-Own-Within.front c.in-Own-Within.back = rw outer at c.in-Own-Within.field-0-is in
    let made = rw (c.requires.spelling, c.within-joining.ensures.front, c.within-joining.ensures.between, c.within-joining.ensures.back) at c.in_ok-collect_on-in-Own-Within.ensures.value in
    rw (outer, inner) (ap Ok (sym (made ∙ ap (λ t. c.in-Own-Within.front.now ++ t ++ c.in-Own-Within.back.now) (ap (delimited c.in-Own-Within.between.now) (map-id (g.X.Plumbing.value c.args.stream.now))))))
