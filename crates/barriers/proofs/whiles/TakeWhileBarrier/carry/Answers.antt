use Rattle.std.proofs.Common.{◌≡◌, ◌-◌, ◌++◌, Bool, Some, cond, count_by, not, map, take, length, ap, ◌∙◌, sym, arith}
use Rattle.std.proofs.lemmas.List.{length-map, take-map}
use Rattle.barriers.specs.Whiles.{taken_while}
use Rattle.barriers.proofs.GoesOn.{needs-closed, needs-cut, needs-open, taken-closed, taken-cut, taken-open}
use Rattle.barriers.proofs.whiles.TakeWhileBarrier.carry.Goals.{then-not-state, else-not-state+then-is_cut, else-not-state+else-is_cut}
use Rattle.barriers.proofs.whiles.TakeWhileBarrier.carry.Goals as goal

pub returns-clause-goes_on : goal.returns-clause-goes_on
returns-clause-goes_on g c = λ more.
    let p = g.P.Test.holds c.args.self.now.test in
    let content = g.T.Value.content in
    let before = c.args.items in
    let items = map content before.items in
    let kept = map content c.if-not-state.items.items in
    elim c.if-not-state.branch [
      | then-not-state w ↦
          taken-closed p c.args.state.now items kept more w.if-not-state.true (ap (λ v. map content v.items) w.items-is ∙ ap (map content) w.clear.ensures.items)
          ∙ ap (λ b. kept ++ taken_while b p more) (sym w.state-is)
      | else-not-state+then-is_cut w ↦
          let place : before.len - 1 ≡ length items - 1 = let same = length-map before.items content in omega (arith, same, before.ok.0) in
          let others : kept ≡ take (length items - 1) items =
          ap (λ v. map content v.items) w.items-is
          ∙ ap (map content) w.pop.ensures.rest
          ∙ sym (take-map content (before.len - 1) before.items)
          ∙ ap (λ n. take n items) place in
          taken-cut p c.args.state.now c.args.is_cut items kept more w.if-not-state.false w.if-is_cut.true c.requires.told others
          ∙ ap (λ b. kept ++ taken_while b p more) (sym w.state-is)
      | else-not-state+else-is_cut w ↦
          taken-open p c.args.state.now c.args.is_cut items kept more w.if-not-state.false w.if-is_cut.false c.requires.told (ap (λ v. map content v.items) w.items-is)
          ∙ ap (λ b. kept ++ taken_while b p more) (sym w.state-is)
    ]

pub returns-clause-lessened : goal.returns-clause-lessened
returns-clause-lessened g c =
    let counted : g.row.T-Content.Denot → Bool = λ x. not (g.P.Test.holds c.args.self.now.test x) in
    let items = map g.T.Value.content c.args.items.items in
    elim c.if-not-state.branch [
      | then-not-state w ↦ ap (λ b. Some (cond b 1 0)) w.state-is ∙ needs-closed c.args.state.now (count_by counted items) w.if-not-state.true
      | else-not-state+then-is_cut w ↦
          ap (λ b. Some (cond b 1 0)) w.state-is ∙ needs-cut counted c.args.state.now c.args.is_cut items w.if-not-state.false c.requires.told w.if-is_cut.true
      | else-not-state+else-is_cut w ↦
          ap (λ b. Some (cond b 1 0)) w.state-is ∙ needs-open counted c.args.state.now c.args.is_cut items w.if-not-state.false c.requires.told w.if-is_cut.false
    ]
