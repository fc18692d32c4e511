use Rattle.std.proofs.Common.{◌≡◌, ◌∙◌, Bool, List, ◌++◌, map, take, drop, fold, nat_lt, refl, subst, sym, ap}
use Rattle.std.proofs.lemmas.List.{take-append-drop, map-append}
use Rattle.std.proofs.lemmas.List.Sums.{fold-append}
use Rattle.std.proofs.lemmas.List.Elements.{All-append}
use Rattle.collectors.specs.Laws.{IsContainerOf}
use Rattle.parallel_streams.specs.Meeting.{any-by-count}
use Rattle.parallel_streams.specs.Searches.{IsFound}
use Rattle.parallel_streams.proofs.Searching.{found-taken, none-left}
use Rattle.parallel_streams.proofs.seeking.SeekingAccSink.take_lent.Goals as goal

pub returns-clause-taken : goal.returns-clause-taken
returns-clause-taken g c =
    let s = c.args.self.now in
    let it = s.collector.now in
    let content = g.T.Value.content in
    let items = c.args.items.now in
    let counted = g.D.Demand.counted s.demand.now in
    let is_value = g.T.Value.is_value in
    let empty = g.C.Collector.empty it in
    let add = g.C.Collector.add it in
    let made = IsContainerOf is_value (g.C.Collector.content it) empty add in
    let taken = c.front-taken.result.0 in
    let counting = c.front-taken.result.1 in
    let front = map content (take taken items) in
    let more = map content (drop taken items) in
    let told = c.front-taken.ensures in
    let all : front ++ more ≡ map content items = sym (map-append content (take taken items) (drop taken items)) ∙ ap (map content) (take-append-drop taken items) in (
      refl,
      refl,
      λ whole found.
          let P : Bool → Type 0 = λ b. IsFound counted made whole s.acc b in
          let Q : List g.row.T-Content.Denot → Type 0 = λ l. IsFound counted made (whole ++ l) c.accumulate_all.new.acc (nat_lt 0 counting) in
          subst Q all
          (found-taken counted made whole front more s.acc c.accumulate_all.new.acc (nat_lt 0 counting) (subst P c.if-self.false found)
          (ap (nat_lt 0) told.counting ∙ sym (any-by-count counted front)) (none-left content items taken counting told.whole)
          (λ before. (
            All-append is_value whole front before.0 c.are_values.ensures,
            c.in_ok-accumulate_all.ensures ∙ ap (λ a. fold add a front) before.1 ∙ sym (fold-append add empty whole front),
          ))),
    )
