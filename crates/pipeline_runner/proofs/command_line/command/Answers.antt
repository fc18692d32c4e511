use Rattle.std.proofs.Common.{◌∙◌, inl, inr, sym}
use Rattle.std.proofs.lemmas.Option.{IfSome_then}
use Rattle.pipeline_runner.proofs.RunLemmas.{asked_for_help, has_a_fault, on_file, told_fault, told_key}
use Rattle.pipeline_runner.proofs.command_line.command.Goals as goal

pub returns-in-Ok-run-clause-answered : goal.returns-in-Ok-run-clause-answered
returns-in-Ok-run-clause-answered g c = λ done.
    inr (on_file c.in-Ok.matches c.in-Some.input c.in-Ok.ensures.fails c.in-Ok.ensures.found c.in-Some.ensures c.in-Ok-run.ensures.runs)

pub returns-clause-faulty : goal.returns-clause-faulty
returns-clause-faulty g c = λ two.
    let is = sym c.tell-in-Err-run.ensures ∙ two in
    inr (on_file c.in-Ok.matches c.in-Some.input c.in-Ok.ensures.fails c.in-Ok.ensures.found c.in-Some.ensures
    (IfSome_then (g.I.Input.remaining c.in-Some.input) c.in-Err-run.ensures.runs (λ file ran. told_fault file _ _ c.in-Err-run.e is ran)))

pub returns-clause-repeated : goal.returns-clause-repeated
returns-clause-repeated g c = λ four.
    let is = sym c.tell-in-Err-run.ensures ∙ four in
    on_file c.in-Ok.matches c.in-Some.input c.in-Ok.ensures.fails c.in-Ok.ensures.found c.in-Some.ensures
    (IfSome_then (g.I.Input.remaining c.in-Some.input) c.in-Err-run.ensures.runs (λ file ran. told_key file _ _ c.in-Err-run.e is ran))

pub returns-in-Err-clause-answered : goal.returns-in-Err-clause-answered
returns-in-Err-clause-answered g c = λ zero.
    inl (asked_for_help c.in-Err.e c.explain.result c.in-Err.ensures.fails c.explain.ensures.memory zero (c.explain.ensures.helped zero), c.explain.ensures.shown zero)

pub returns-in-Err-clause-faulty : goal.returns-in-Err-clause-faulty
returns-in-Err-clause-faulty g c = λ two.
    inl (has_a_fault c.in-Err.e c.explain.result c.in-Err.ensures.fails c.explain.ensures.memory two (c.explain.ensures.faulty two))
