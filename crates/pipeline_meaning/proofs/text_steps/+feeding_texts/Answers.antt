use Rattle.std.proofs.Common.{arith, subst, ◌≤◌, ◌-◌, ℕ, List, flat_map}
use Rattle.std.proofs.Math.ListN.{replicate}
use Rattle.pipeline_meaning.specs.{TextSteps.text_images, Walks.copies-all}
use Rattle.pipeline_meaning.proofs.text_steps.+feeding_texts.Goals as goal

pub feed_copies-returns-then-is_full-clause-taken :
    goal.feed_copies-returns-then-is_full-clause-taken
feed_copies-returns-then-is_full-clause-taken g t c =
    let images = text_images c.args.steps.now in
    let text = g.T.Value.content c.args.text in
    let rest : List (List ℕ) = flat_map images (replicate (c.args.n - c.loop.counter) text) in
    let P : List (List ℕ) → Type 0 = λ l. g.K.Sink.takes c.args.sink.now l c.loop.sink in
    let within : c.loop.counter ≤ c.args.n = omega arith in
    subst P (copies-all images c.loop.counter c.args.n text within)
    (g.met.K.Sink.takes_both c.args.sink.now c.loop.sink c.loop.sink (flat_map images (replicate c.loop.counter text)) rest
    c.loop.invariant.1 (c.is_full.ensures c.if-is_full.true rest))
