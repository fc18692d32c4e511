use Rattle.std.proofs.Common.{◌≡◌, ◌-◌, Some, take, drop, slice_index, length, sym, ap, ap₂, ◌∙◌, arith}
use Rattle.parallel_streams.specs.Cuts.{start_at, part-cut_at}
use Rattle.parallel_streams.specs.Ends.{ends_of}
use Rattle.parallel_streams.proofs.places.Places.part.Goals as goal

pub returns : goal.returns
returns g c =
    let items = c.args.items.now in
    let ends = ends_of c.args.self.now in
    let start = start_at 0 ends c.args.leaf in
    let whole : start - 0 ≡ start = omega arith in
    part-cut_at 0 (length items) ends items c.args.leaf c.requires.cut c.requires.within
    ∙ ap (λ n. Some (take (slice_index ends c.args.leaf - start) (drop n items))) whole
    ∙ ap₂ (λ s e. Some (take (e - s) (drop s items))) (sym c.bounds-start.ensures.start) (sym c.bounds-start.ensures.end)
