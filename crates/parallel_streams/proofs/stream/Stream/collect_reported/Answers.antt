use Rattle.std.proofs.Common.{ℕ, List, None, ap, subst, sym, ◌∙◌}
use Rattle.barriers.specs.Needs.{no_item}
use Rattle.barriers.specs.NeedLaws.{KeepsEnough-never, whole-front}
use Rattle.stealing_pool.specs.Spans.{joined}
use Rattle.parallel_streams.specs.Reports.{IsReportedRun}
use Rattle.parallel_streams.proofs.Harmless.{is-entry}
use Rattle.parallel_streams.proofs.stream.Stream.collect_reported.Goals as goal

pub returns-clause-report : goal.returns-clause-report
returns-clause-report g c =
    let ran = c.in_ok-ended.ensures in
    let kept = ran.of_run.0 in
    let P : List _ → Type 0 = λ l. g.C.Collector.gives c.args.collector.now l c.in_ok-value.value in
    let is = c.in_ok-engine.ensures.run in
    let s = c.args.self.now in
    let X = g.Self.Plumbing in
    let Q : ℕ → ℕ → Type 0 = λ workers target. IsReportedRun (X.leaf_lists s workers target) (X.value s) (X.reported s workers target) (g.C.Collector.gives c.args.collector.now) c.in_ok-value.value c.of.result in
    subst (λ workers. Q workers c.args.run.now.target) (ap (λ run. run.workers) is)
    (subst (Q c.in_ok-engine.engine.run.workers) (ap (λ run. run.target) is) (record {
      lists = ran.lists;
      cut = ran.cut;
      joins = ran.joins;
      before = ran.before;
      last = ran.last;
      are = c.of.ensures ∙ ran.are;
      of_barriers = ran.of_barriers;
      of_run = (
        subst P (sym (whole-front no_item (joined ran.lists) kept.0 kept.1)) (c.in_ok-value.ensures kept.0 kept.2.0 kept.2.1),
        is-entry None no_item (λ l. l) (KeepsEnough-never no_item (λ l. l)) ran.lists ran.last ran.of_run.1,
      );
    }))
