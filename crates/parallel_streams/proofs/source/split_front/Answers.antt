use Rattle.std.proofs.Common.{◌++◌, ◌+◌, ◌^◌, List, [], Some, arith, refl, subst, sym}
use Rattle.parallel_streams.proofs.Stack.{split-items, split-weight}
use Rattle.parallel_streams.proofs.Fine.{Each-push, fine-split}
use Rattle.parallel_streams.specs.Reading.{Each, SplitsFinely}
use Rattle.parallel_streams.specs.Sources.{items_behind, weight_behind}
use Rattle.parallel_streams.proofs.source.split_front.Goals as goal

pub loop-front-preserved : goal.loop-front-preserved
loop-front-preserved g c =
    let S = g.S.Spliterator in
    let front = c.loop-front.front in
    let part = c.in-Some.part in
    let rest = c.try_split.new.self in
    let parts = c.loop-front.rest.items in
    let now = c.push.new.self.items in
    let split = g.met.S.Spliterator.split_law front (Some part) rest c.in-Some.ensures in
    let both = fine-split S.items S.weight S.estimate S.told S.split_gives front part rest in
    let fine : g.row.S.Denot → Type 0 = SplitsFinely S.estimate S.told S.split_gives in
    record {
      items = split-items S.items front part rest parts now (S.items c.args.source ++ items_behind S.items c.args.rest.now.items) split.items_joined c.in_ok-push.ensures.items c.loop-front.invariant.items;
      weight = split-weight S.weight front part rest parts now (2 ^ S.weight c.args.source + weight_behind S.weight c.args.rest.now.items) split.part_lighter split.rest_lighter c.in_ok-push.ensures.items c.loop-front.invariant.weight;
      fine = λ told. (both (c.loop-front.invariant.fine told) c.in-Some.ensures split).0;
      parts = λ told all. let P : List g.row.S.Denot → Type 0 = Each fine in
          subst P (sym c.in_ok-push.ensures.items) (Each-push fine parts rest (c.loop-front.invariant.parts told all) (both (c.loop-front.invariant.fine told) c.in-Some.ensures split).1);
    }

pub returns-in_default-clause-fine : goal.returns-in_default-clause-fine
returns-in_default-clause-fine g c = λ fine parts. (c.loop-front.invariant.fine fine, c.loop-front.invariant.parts fine parts)

pub returns-in_default-clause-short : goal.returns-in_default-clause-short
returns-in_default-clause-short g c = λ fine.
    let one = (c.loop-front.invariant.fine fine).splits [] c.loop-front.front c.try_split.new.self refl c.in_default.ensures in
    omega (arith, one)

pub returns-clause-fine : goal.returns-clause-fine
returns-clause-fine g c = λ fine parts. (c.loop-front.invariant.fine fine, c.loop-front.invariant.parts fine parts)
