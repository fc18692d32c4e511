use Rattle.std.proofs.Common.{◌≡◌, ◌<◌, ◌+◌, ◌^◌, ◌++◌, ◌∷◌, [], ◌∙◌, List, Some, arith, flat_map, length, subst, sym, ap}
use Rattle.parallel_streams.proofs.Fine.{Each-last, reads-next, reads-within}
use Rattle.parallel_streams.specs.Reading.{Each, SplitsFinely}
use Rattle.parallel_streams.specs.Sources.{items_behind}
use Rattle.split_tree.specs.Plan.{leaves_of}
use Rattle.parallel_streams.proofs.Stack.{joined-next, weight-next}
use Rattle.parallel_streams.proofs.source.SourcePlumbing.go_on.Goals as goal

pub returns-clause-left : goal.returns-clause-left
returns-clause-left g c =
    joined-next g.S.Spliterator.items c.args.progress.rest.items c.pop.new.self.items c.split_front.new.rest.items c.in-Some.next c.in_ok-first.first (flat_map g.S.Spliterator.items (leaves_of c.in_ok-plan.plan))
    c.in-Some.ensures.items c.in_ok-plan.ensures.items c.in_ok-first.ensures.items

pub returns-clause-reads : goal.returns-clause-reads
returns-clause-reads g c = λ n read.
    let S = g.S.Spliterator in
    let law = g.met.S.Spliterator.size_law in
    let fine : g.row.S.Denot → Type 0 = SplitsFinely S.estimate S.told S.split_gives in
    let s = c.args.self.now.split in
    let first = c.in_ok-first.first in
    let segment = flat_map S.items (leaves_of c.in_ok-plan.plan) in
    let now = c.split_front.new.rest.items in
    let unread = items_behind S.items now in
    let old = c.args.progress.rest.items in
    let told = c.read_with-read.result in
    let same = joined-next S.items old c.pop.new.self.items now c.in-Some.next first segment c.in-Some.ensures.items c.in_ok-plan.ensures.items c.in_ok-first.ensures.items in
    let was : old ≡ c.pop.new.self.items ++ c.in-Some.next ∷ [] = c.in-Some.ensures.items in
    let P : List g.row.S.Denot → Type 0 = Each fine in
    let parts : fine s → Each fine c.pop.new.self.items × fine c.in-Some.next = λ f. Each-last fine c.pop.new.self.items c.in-Some.next (subst P was (read.1 f).1) in
    let both : fine s → fine first × Each fine now = λ f. c.in_ok-first.ensures.fine (parts f).1 (parts f).0 in
    let size : fine s → S.estimate first ≡ length segment = λ f. (law first).exact (both f).0.sized ∙ ap length (sym c.in_ok-plan.ensures.items) in
    let within = reads-within fine s (S.items s) segment unread now told (items_behind S.items old) old c.args.progress.read n read same in
    let fits : fine s → n + S.estimate first < 2 ^ 64 = λ f.
    let whole = (law s).exact f.sized in
    let most = (law s).at_most in
    let e = size f in
    omega (arith, within, whole, most, e) in
    let tells : fine s → (told ≡ Some (n + length segment)) × Each fine now = λ f.
    (c.read_with-read.ensures n (both f).0.sized (read.1 f).0 (fits f) ∙ ap (λ k. Some (n + k)) (size f), (both f).1) in (
      n + length segment,
      reads-next fine s (S.items s) segment unread now told (items_behind S.items old) old c.args.progress.read n read same tells,
      λ f.
          let short = c.in_ok-first.ensures.short (parts f).1 in
          let most = c.most_behind.ensures n (read.1 f).0 in
          let e = size f in
          omega (arith, short, most, e),
    )

pub returns-clause-still : goal.returns-clause-still
returns-clause-still g c =
    weight-next g.S.Spliterator.weight c.args.progress.rest.items c.pop.new.self.items c.split_front.new.rest.items c.in-Some.next c.in_ok-first.first c.in-Some.ensures.items c.in_ok-first.ensures.weight
