use Rattle.std.proofs.Common.{◌++◌, ◌∙◌, ap, rules, sym, take, take-append-drop}
use Rattle.std.proofs.lemmas.List.{take_rest}
use Rattle.pipeline_runner.proofs.RunLemmas.{appended_more}
use Rattle.pipeline_runner.proofs.runner.write_bytes.Goals as goal

pub loop-rest-preserved : goal.loop-rest-preserved
loop-rest-preserved g c =
    let rest = c.loop-rest.rest.now in
    let taken = c.in-Ok.taken in
    let cut = sym (take-append-drop taken rest) ∙ ap (λ left. take taken rest ++ left) (sym (take_rest rest taken)) in
    record {
      bytes = appended_more _ _ _ _ _ _ c.loop-rest.invariant.bytes (take taken rest, cut, c.in-Ok.ensures.bytes);
      failed = search rules;
    }
