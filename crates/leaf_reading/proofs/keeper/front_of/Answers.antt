use Rattle.std.proofs.Common.{rules, ◌≡◌, ◌∙◌, ℕ, Option, Some, ap, sym, subst, map, take, length}
use Rattle.barriers.specs.Needs.{need_of, CountsNone, Reaches}
use Rattle.barriers.specs.declared.demand.Need.{Need}
use Rattle.leaf_reading.proofs.Fronts.{count_none, none-shorter}
use Rattle.leaf_reading.proofs.keeper.front_of.Goals as goal

pub returns-in-Never-clause-counting : goal.returns-in-Never-clause-counting
returns-in-Never-clause-counting g c =
    let counted = g.D.Demand.counted c.args.demand.now in
    let P : Need → Type 0 = λ need. CountsNone (need_of need) counted in
    sym (count_none counted (subst P c.in-Never.is c.requires.need.never) (map g.T.Value.content (take (length c.args.items.now) c.args.items.now)))

-- bounded: a wrong body would search to its limit
pub returns-in-Reach-clause-stays : goal.returns-in-Reach-clause-stays
returns-in-Reach-clause-stays g c = search rules fits 60 depth 3

pub returns-in-Reach-clause-last : goal.returns-in-Reach-clause-last
returns-in-Reach-clause-last g c = λ one.
    let needed = c.in-Reach.needed in
    let is : need_of c.args.need ≡ Some needed = ap need_of c.in-Reach.is in
    let same : Some needed ≡ Some 1 = sym is ∙ one in
    let R : Option ℕ → Type 0 = λ need. Reaches need c.args.count → ⊥ in
    none-shorter g.T.Value.content (g.D.Demand.counted c.args.demand.now) needed c.args.count c.front.result.0 c.args.items.now same (subst R is c.requires.under) c.front.ensures.shortest
