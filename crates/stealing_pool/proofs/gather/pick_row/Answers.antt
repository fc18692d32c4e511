use Rattle.std.proofs.Common.{◌≡◌, ◌<◌, ◌+◌, ◌∙◌, ◌∷◌, ℕ, [], Option, Some, None, ap, length, length-append, drop, arith, sym, subst, refl, inl, inr, true}
use Rattle.std.proofs.lemmas.List.{length-drop}
use Rattle.barriers.specs.Needs.{Reaches}
use Rattle.stealing_pool.specs.Gathers.{HoldsLeaf}
use Rattle.stealing_pool.proofs.Places.{drop_next}
use Rattle.stealing_pool.proofs.Picked.{portion_count, count_in, picked_filled, picked_enough, picked_more, picked_all}
use Rattle.stealing_pool.proofs.gather.pick_row.Goals as goal

pub unreachable-requires : goal.unreachable-requires
unreachable-requires g c =
    let inv = c.loop-place.invariant in
    let work = g.J.LeafJob.work c.args.job.now in
    let k = length c.loop-place.row.items in
    let place = c.in-Some.place in
    let next = drop_next k c.args.places.items _ place (sym inv.2 ∙ c.in-Some.ensures.steps.0) in
    let within : k < work.leaves = let n = next.0 in let m = c.requires.all in omega arith in
    elim (c.requires.has k place within) [
      | inl filled ↦ filled (next.1 place ∙ c.in_default.is)
      | inr cut ↦ picked_filled work (count_in c.args.places.items) c.loop-place.row.items c.loop-place.total cut.0 inv.4 cut.1 cut.2
    ]

pub returns-then-is_enough : goal.returns-then-is_enough
returns-then-is_enough g c =
    let inv = c.loop-place.invariant in
    let work = g.J.LeafJob.work c.args.job.now in
    let row = c.loop-place.row.items in
    let k = length row in
    let place = c.in-Some.place in
    let portion = c.in-Some-place.portion in
    let next = drop_next k c.args.places.items _ place (sym inv.2 ∙ c.in-Some.ensures.steps.0) in
    let within : k < work.leaves = let n = next.0 in let m = c.requires.all in omega arith in
    let counts : count_in c.args.places.items k ≡ portion.count = ap portion_count (next.1 None ∙ c.in-Some-place.is) in
    let held : HoldsLeaf work k (Some portion) = subst (HoldsLeaf work k) (next.1 place ∙ c.in-Some-place.is) (c.requires.holds k place within) in
    let R : Option ℕ → Type 0 = λ needed. Reaches needed (c.loop-place.total + portion.count) in
    picked_enough work (count_in c.args.places.items) row c.push.new.self.items c.loop-place.total portion k refl counts held inv.4 c.in_ok-push.ensures.items within (subst R c.need-need.ensures.is (c.is_enough.ensures.reached.0 c.if-is_enough.true))

pub loop-place-preserved : goal.loop-place-preserved
loop-place-preserved g c =
    let inv = c.loop-place.invariant in
    let work = g.J.LeafJob.work c.args.job.now in
    let row = c.loop-place.row.items in
    let k = length row in
    let place = c.in-Some.place in
    let portion = c.in-Some-place.portion in
    let is = c.in-Some.ensures.steps in
    let next = drop_next k c.args.places.items _ place (sym inv.2 ∙ is.0) in
    let within : k < work.leaves = let n = next.0 in let m = c.requires.all in omega arith in
    let counts : count_in c.args.places.items k ≡ portion.count = ap portion_count (next.1 None ∙ c.in-Some-place.is) in
    let held : HoldsLeaf work k (Some portion) = subst (HoldsLeaf work k) (next.1 place ∙ c.in-Some-place.is) (c.requires.holds k place within) in
    let R : Option ℕ → Type 0 = λ needed. Reaches needed (c.loop-place.total + portion.count) in
    let under : R work.needed → ⊥ = λ reached. let t : c.is_enough.result ≡ true = c.is_enough.ensures.reached.1 (subst R (sym c.need-need.ensures.is) reached) in let f = c.if-is_enough.false in cc in
    let longer : length c.push.new.self.items ≡ k + 1 = ap length c.in_ok-push.ensures.items ∙ length-append row (portion.kept ∷ []) in
    let fewer = ap length is.0 in (
      tt,
      tt,
      sym next.2 ∙ ap (λ n. drop n c.args.places.items) (sym longer),
      omega (arith, is.1, inv.3),
      picked_more work (count_in c.args.places.items) row c.push.new.self.items c.loop-place.total portion k refl counts held inv.4 c.in_ok-push.ensures.items c.need-need.ensures.fits under,
      (let n = next.0 in omega arith),
    )

pub returns : goal.returns
returns g c =
    let inv = c.loop-place.invariant in
    let work = g.J.LeafJob.work c.args.job.now in
    let k = length c.loop-place.row.items in
    let none : c.loop-place.place-iterator.rest.len ≡ 0 = c.in-None.ensures.steps.0 in
    let left = ap length inv.2 ∙ length-drop k c.args.places.items in
    let sizes = inv.3 in
    let few = inv.5 in
    let all = c.requires.all in
    picked_all work (count_in c.args.places.items) c.loop-place.row.items c.loop-place.total inv.4 c.requires.some (omega arith)
