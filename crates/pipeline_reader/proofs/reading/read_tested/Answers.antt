use Rattle.std.proofs.Common.{◌≡◌, ◌+◌, ap, length, arith, ℕ, [], ◌∷◌}
use Rattle.std.proofs.lemmas.List.{length-append}
use Rattle.pipeline_reader.proofs.LoopLemmas.{texts_more}
use Rattle.pipeline_reader.proofs.reading.read_tested.Goals as goal

pub loop-before-preserved : goal.loop-before-preserved
loop-before-preserved c =
    let index : ℕ = c.loop-before.before in
    let count : length c.push.new.self.items ≡ length c.loop-before.texts.items + 1 = omega (arith, ap length c.in_ok-push.ensures.items, length-append c.loop-before.texts.items (c.in_ok-first_text.field-0 ∷ [])) in
    record {
      within = omega (arith, c.loop-before-test.true);
      number = omega (arith, count, c.loop-before.invariant.number);
      taken = omega (arith, count, c.loop-before.invariant.taken, c.in_ok-first_text.ensures.taken);
      read = texts_more (λ text. text.now) c.loop-before.texts.items c.push.new.self.items c.in_ok-first_text.field-0 c.args.count index c.loop-before.lines c.first_text.new.lines _ c.loop-before-test.true c.in_ok-push.ensures.items c.in_ok-first_text.ensures.rest c.loop-before.invariant.read c.in_ok-first_text.ensures.text;
    }
