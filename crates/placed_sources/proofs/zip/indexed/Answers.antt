use Rattle.std.proofs.Common.{ap, ◌∙◌, arith, w64, pos, length, to_z, ◌≡◌}
use Rattle.std.specs.List.{zip}
use Rattle.std.proofs.lemmas.Int.{ints}
use Rattle.placed_sources.proofs.ZipLaws.{zip-counted}
use Rattle.placed_sources.proofs.zip.indexed.Goals as goal

pub returns-clause-ok : goal.returns-clause-ok
returns-clause-ok g c =
    let items = g.S.Spliterator.items c.args.source in
    let end = to_z w64 c.count-count.result in
    let whole : end ≡ pos (length items) = omega (arith, ints, c.count-count.ensures, c.if-count-gt-MAX_RANGE.false) in
    c.new.ensures ∙ ap (λ ps. zip ps items) c.in_ok-places.ensures.ok ∙ zip-counted end items whole
