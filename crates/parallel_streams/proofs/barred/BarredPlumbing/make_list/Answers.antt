use Rattle.std.proofs.Common.{◌≡◌, ◌++◌, List, Option, ℕ, Bool, sym, length, map, subst, refl, rules, ap, ◌∙◌}
use Rattle.std.specs.Option.{is_some}
use Rattle.leaf_board.specs.Closing.{count_of, cut_of}
use Rattle.stealing_pool.specs.Reports.{Reports}
use Rattle.stealing_pool.specs.Spans.{full_count, joined}
use Rattle.barriers.specs.Needs.{IsToldBy}
use Rattle.barriers.specs.Thinned.{thinned-behind, thinned-less}
use Rattle.parallel_streams.specs.Ends.{ends_of}
use Rattle.parallel_streams.specs.Leaves.{AreLeafEnds}
use Rattle.parallel_streams.specs.ProgressLaws.{told-before, left-unlisted, fresh-unlisted, unready-unlisted}
use Rattle.parallel_streams.specs.Reading.{StandsBehind}
use Rattle.parallel_streams.specs.ReadingLaws.{less-outcome, reads-unlisted, stands-carried}
use Rattle.parallel_streams.specs.Reports.{IsEntryOf, IsReport}
use Rattle.parallel_streams.proofs.Gathering.{kept-own, goes-on, kept-value}
use Rattle.parallel_streams.proofs.Harmless.{is-entry}
use Rattle.parallel_streams.proofs.barred.BarredPlumbing.make_list.Goals as goal

pub list_kept-requires-clause-told : goal.list_kept-requires-clause-told
list_kept-requires-clause-told g c =
    let s = c.args.self.now in
    let U = g.U.Plumbing in
    let p = c.args.progress.before in
    let content = g.U.Item.Value.content in
    let needed = g.B.Barrier.needed_behind s.barrier c.args.progress.state in
    let counted = g.B.Demand.counted s.barrier in
    let kept = kept-own (U.work s.upstream p) g.U.Item.Value.is_value needed counted content (g.B.Barrier.value_behind s.barrier c.args.progress.state) (U.parts s.upstream p) (U.done s.upstream p) c.args.part c.in-Own.pieces c.args.entry.now c.in-Own.is c.requires.part c.requires.entry in
    let Q : Bool → Type 0 = λ is_cut. IsToldBy needed counted (map content c.in-Own.pieces) is_cut in
    subst Q (sym (c.is_some-is_cut.ensures ∙ ap is_some c.cut.ensures)) kept.1.3

pub returns : goal.returns
returns g c =
    let s = c.args.self.now in
    let U = g.U.Plumbing in
    let B = g.B.Barrier in
    let p = c.args.progress.before in
    let passes = c.args.progress.passes in
    let content = g.U.Item.Value.content in
    let workers = c.args.engine.now.run.workers in
    let target = c.args.engine.now.run.target in
    let old = B.value_behind s.barrier c.args.progress.state in
    let new = c.list_kept.new.state in
    let now = B.value_behind s.barrier new in
    let value = B.value s.barrier in
    let least = g.B.Demand.needed s.barrier in
    let needed = B.needed_behind s.barrier c.args.progress.state in
    let counted = g.B.Demand.counted s.barrier in
    let lists = U.parts s.upstream p in
    let behind = U.behind s.upstream p in
    let held = c.requires.holds.0 in
    let entry = c.args.entry.now in
    let kept = kept-own (U.work s.upstream p) g.U.Item.Value.is_value needed counted content old lists (U.done s.upstream p) c.args.part c.in-Own.pieces entry c.in-Own.is c.requires.part c.requires.entry in
    let pieces = map content c.in-Own.pieces in
    let items = map content c.in_ok-listed-in-Own.listed.items.items in
    let carried : (more : List _) → old (kept.1.0 ++ more) ≡ items ++ now more =
    λ more. thinned-behind old needed kept.1.0 pieces more kept.1.2 ∙ c.in_ok-listed-in-Own.ensures.goes_on more in
    let enough = g.met.B.Barrier.enough_behind s.barrier c.args.progress.state in
    let on = goes-on needed counted old now enough (joined lists) kept.1.0 items kept.1.1 carried in
    let unlisted = unready-unlisted passes (U.done s.upstream p) c.args.progress.listed in
    let fresh = fresh-unlisted content least needed value old (U.value s.upstream) workers target passes c.args.progress.listed in
    let whole = g.met.U.Plumbing.whole_law s.upstream workers target p held in
    record {
      holds = search rules;
      left = λ waits. sym (on behind) ∙ ap old (sym (g.met.U.Plumbing.parts_law s.upstream p held kept.0)) ∙ sym (left-unlisted content old (U.left s.upstream p) behind c.args.progress.listed (unlisted waits));
      still = search rules;
      planned = λ waits planned.
          let is = kept-value needed counted old now enough (joined lists) kept.1.0 items kept.1.1 carried value (fresh (unlisted waits) planned.1).1 (g.met.B.Barrier.of_nothing s.barrier new) in
          (planned.0, (c.in_ok-listed-in-Own.ensures.leaves, is ∙ ap value (whole planned.0 kept.0)));
      entries = λ waits planned entries told.
          let R : Option ℕ → Type 0 = λ n. Reports n (length lists) (full_count counted lists) entry.leaves (count_of entry) (cut_of entry) in
          let Reported = IsReport (U.leaf_lists s.upstream workers target) (U.value s.upstream) (U.reported s.upstream workers target) (IsEntryOf least counted value) in
          let before = told-before passes (U.told_so_far s.upstream workers target p) Reported c.args.progress.listed entries (unlisted waits) told in
          record {
            lists = lists;
            cut = g.met.U.Plumbing.cut_law s.upstream workers target p held planned.0 kept.0;
            joins = whole planned.0 kept.0;
            before = entries;
            last = entry;
            are = refl;
            of_barriers = g.met.U.Plumbing.reported_law s.upstream workers target p entries kept.0 before.1;
            of_run = is-entry least counted value (g.met.B.Barrier.enough_law s.barrier) lists entry (subst R (fresh (unlisted waits) planned.1).0 kept.1.4);
          };
      reads = λ waits from to reads.
          let needs = B.needed_behind s.barrier in
          let before = U.front s.upstream from in
          let stands : g.row.B-State.Denot → List g.row.U-Item-Content.Denot → Type 0 = λ state. StandsBehind least counted value (needs state) (B.value_behind s.barrier state) in
          let less = c.in_ok-listed-in-Own.ensures.lessened ∙ thinned-less old needed counted kept.1.0 pieces kept.1.2 ∙ less-outcome needed counted (joined lists) kept.1.0 kept.1.1 in
          let so_far = reads-unlisted (U.reads s.upstream p from to) (U.read s.upstream p to) (stands c.args.progress.state) value before (U.front s.upstream to) content needed passes c.args.progress.listed (unlisted waits) reads in
          let up = g.met.U.Plumbing.read_law s.upstream p from to held kept.0 so_far.0 in
          let P : List g.row.U-Item-Content.Denot → Type 0 = λ l. stands new l × (value l ≡ value before ++ items) in
          let at = subst P (sym up.1) (stands-carried least counted value needed (needs new) old now before (joined lists) items so_far.1 less on (g.met.B.Barrier.of_nothing s.barrier new)) in
          (up.0, at.0, at.1);
      fewer = search rules;
    }
