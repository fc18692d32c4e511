use Rattle.std.proofs.Common.{◌+◌, ◌*◌, flat_map, length}
use Rattle.std.proofs.Math.ListN.{replicate}
use Rattle.file_words.specs.Words.{words_of}
use Rattle.pipeline_meaning.specs.TextSteps.{text_images, words_left, letters_left}
use Rattle.pipeline_meaning.proofs.text_steps.+feeding_texts.Given as goal

abbrev pub decreases-feed_steps : goal.decreases-feed_steps
decreases-feed_steps g l = 2 * length l.steps.now

abbrev pub decreases-feed_copies : goal.decreases-feed_copies
decreases-feed_copies g l = 2 * length l.steps.now + 1

abbrev pub decreases-feed_words : goal.decreases-feed_words
decreases-feed_words g l = 2 * length l.steps.now + 1

abbrev pub invariant-feed_copies-loop : goal.invariant-feed_copies-loop
invariant-feed_copies-loop g l = g.K.Sink.ready l.sink × g.K.Sink.takes l.fn.sink (flat_map (text_images l.steps) (replicate l.counter (g.T.Value.content l.text))) l.sink

abbrev pub invariant-feed_words-loop-left : goal.invariant-feed_words-loop-left
invariant-feed_words-loop-left g l =
    g.K.Sink.ready l.sink
    × ((end : _) → g.K.Sink.spoils l.sink end → g.K.Sink.spoils l.fn.sink end)
    × ((end : _) → g.K.Sink.takes l.sink (flat_map (text_images l.steps) (words_left g.T.Value.content l.left)) end → g.K.Sink.takes l.fn.sink (flat_map (text_images l.steps) (words_of (g.T.Value.content l.fn.text))) end)

abbrev pub decreases-feed_words-loop-left : goal.decreases-feed_words-loop-left
decreases-feed_words-loop-left g l = letters_left g.T.Value.content l.left
