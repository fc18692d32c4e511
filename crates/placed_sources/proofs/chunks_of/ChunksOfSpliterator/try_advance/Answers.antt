use Rattle.std.proofs.Common.{◌≡◌, ◌<◌, ◌++◌, [], map, length, ap, ap₂, sym, ◌∙◌, arith}
use Rattle.std.proofs.lemmas.List.{length-map, take-append-drop, map-append, nil_from_length}
use Rattle.placed_sources.proofs.StepLaws.{chunk-first}
use Rattle.placed_sources.proofs.chunks_of.ChunksOfSpliterator.try_advance.Goals as goal

pub returns-clause-ok : goal.returns-clause-ok
returns-clause-ok g c =
    let s = c.args.self.now in
    let content = g.T.Value.content in
    let items = s.items.now in
    let chunk = c.split_at.result.0.now in
    let rest = c.split_at.result.1.now in
    let whole : items ≡ chunk ++ rest = sym (take-append-drop c.min.result items) ∙ ap₂ (λ a b. a ++ b) (sym c.split_at.ensures.front) (sym c.split_at.ensures.back) in
    let long = length-map chunk content in
    let left = length-map rest content in
    let front = c.split_at.ensures.front_len in
    let back = c.split_at.ensures.back_len in
    let none : length (map content chunk) < s.size → map content rest ≡ [] =
    λ short. nil_from_length (map content rest) (omega (arith, long, left, front, back, c.min.ensures, short)) in
    chunk-first s.size (map content items) (map content chunk) (map content rest) s.some
    (ap (map content) whole ∙ map-append content chunk rest) (omega (arith, long, front, c.min.ensures)) none
    (omega (arith, long, front, c.min.ensures, s.some, c.if-len-eq0.false))
