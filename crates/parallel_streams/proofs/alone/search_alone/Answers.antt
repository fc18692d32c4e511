use Rattle.std.proofs.Common.{◌≡◌, Bool, List, [], ◌++◌, ◌∙◌, ◌∷◌, true, false, flat_map, subst, refl, sym, ap, append-nil}
use Rattle.std.proofs.lemmas.List.Elements.{All-nil}
use Rattle.collectors.specs.Laws.{IsContainerOf}
use Rattle.leaf_reading.specs.KeeperLaws.{Offers}
use Rattle.stealing_pool.specs.Spans.{joined}
use Rattle.parallel_streams.specs.LeafLaws.{flat_map-alone}
use Rattle.parallel_streams.specs.Searches.{IsFound}
use Rattle.parallel_streams.proofs.Fronts.{took-all, took-front}
use Rattle.parallel_streams.proofs.Searching.{found-more, found-whole}
use Rattle.parallel_streams.proofs.alone.search_alone.Goals as goal

pub returns-in_default : goal.returns-in_default
returns-in_default g c =
    let C = g.C.Collector in
    let is_value = g.X.Item.Value.is_value in
    let made : g.row.C.Denot → List g.row.X-Item-Content.Denot → g.row.C-Acc.Denot → Type 0 = λ it. IsContainerOf is_value (C.content it) (C.empty it) (C.add it) in
    let alone : List g.row.X-Item-Content.Denot → List g.row.X-Item-Content.Denot = flat_map (λ x. x ∷ []) in
    let all = g.X.Plumbing.value c.args.stream.now in
    let counted = g.D.Demand.counted in
    let new = c.feed_front.new._sink in
    let took = took-all (record { demand = c.args.demand; collector = c.args.collector; acc = c.in_ok-acc.acc; is_hit = false }) new
    (λ s xs t. (t.demand ≡ s.demand) × (t.collector ≡ s.collector)
    × Offers (λ l (found : g.row.C-Acc.Denot × Bool). IsFound (counted s.demand.now) (made s.collector.now) l found.0 found.1) (s.acc, s.is_hit) xs (t.acc, t.is_hit))
    alone all c.in_ok-rest.rest c.in_default.is c.in_ok-rest.ensures.all in
    let P : List g.row.X-Item-Content.Denot → Type 0 = λ l. IsFound (counted c.args.demand.now) (made c.args.collector.now) l new.acc new.is_hit in
    record { found = subst P (flat_map-alone all) (took.2 [] ((All-nil is_value, c.in_ok-acc.ensures), refl)) }

pub returns-then-is_hit : goal.returns-then-is_hit
returns-then-is_hit g c =
    let C = g.C.Collector in
    let X = g.X.Plumbing in
    let stream = c.args.stream.now in
    let is_value = g.X.Item.Value.is_value in
    let made : g.row.C.Denot → List g.row.X-Item-Content.Denot → g.row.C-Acc.Denot → Type 0 = λ it. IsContainerOf is_value (C.content it) (C.empty it) (C.add it) in
    let alone : List g.row.X-Item-Content.Denot → List g.row.X-Item-Content.Denot = flat_map (λ x. x ∷ []) in
    let all = X.value stream in
    let counted = g.D.Demand.counted in
    let new = c.feed_front.new._sink in
    let rest = alone (X.left stream c.in-Some.progress) in
    let took = took-front (record { demand = c.args.demand; collector = c.args.collector; acc = c.in_ok-acc.acc; is_hit = false }) new
    (λ s xs t. (t.demand ≡ s.demand) × (t.collector ≡ s.collector)
    × Offers (λ l (found : g.row.C-Acc.Denot × Bool). IsFound (counted s.demand.now) (made s.collector.now) l found.0 found.1) (s.acc, s.is_hit) xs (t.acc, t.is_hit))
    alone all (X.left stream) c.in_ok-rest.rest c.in-Some.progress c.in-Some.is c.in_ok-rest.ensures.front
    (record { demand = new.demand; collector = new.collector; acc = new.acc; is_hit = true }) (
      refl,
      refl,
      λ before found.
          let P : Bool → Type 0 = λ b. IsFound (counted new.demand.now) (made new.collector.now) before new.acc b in
          found-whole (counted new.demand.now) (made new.collector.now) (before ++ rest) before rest new.acc refl (subst P c.if-is_hit.true found),
    ) in
    let R : List g.row.X-Item-Content.Denot → Type 0 = λ l. IsFound (counted c.args.demand.now) (made c.args.collector.now) l new.acc true in
    record { found = subst R (flat_map-alone all) (took.2 [] ((All-nil is_value, c.in_ok-acc.ensures), refl)) }

pub returns : goal.returns
returns g c =
    let C = g.C.Collector in
    let X = g.X.Plumbing in
    let stream = c.args.stream.now in
    let is_value = g.X.Item.Value.is_value in
    let made : g.row.C.Denot → List g.row.X-Item-Content.Denot → g.row.C-Acc.Denot → Type 0 = λ it. IsContainerOf is_value (C.content it) (C.empty it) (C.add it) in
    let alone : List g.row.X-Item-Content.Denot → List g.row.X-Item-Content.Denot = flat_map (λ x. x ∷ []) in
    let all = X.value stream in
    let counted = g.D.Demand.counted in
    let new = c.feed_front.new._sink in
    let end = c.combine_containers.new.left in
    let hit = c.in_ok-after.is_hit in
    let items = joined (X.parts stream c.in_ok-after.after) in
    let left : X.left stream c.in-Some.progress ≡ items =
    c.in_ok-after.ensures.left ∙ ap (λ l. items ++ l) (c.if-not-is_last.ensures.last refl) ∙ append-nil items in
    let took = took-front (record { demand = c.args.demand; collector = c.args.collector; acc = c.in_ok-acc.acc; is_hit = false }) new
    (λ s xs t. (t.demand ≡ s.demand) × (t.collector ≡ s.collector)
    × Offers (λ l (found : g.row.C-Acc.Denot × Bool). IsFound (counted s.demand.now) (made s.collector.now) l found.0 found.1) (s.acc, s.is_hit) xs (t.acc, t.is_hit))
    alone all (X.left stream) c.in_ok-rest.rest c.in-Some.progress c.in-Some.is c.in_ok-rest.ensures.front
    (record { demand = new.demand; collector = new.collector; acc = end; is_hit = hit }) (
      refl,
      refl,
      λ before found.
          let P : Bool → Type 0 = λ b. IsFound (counted new.demand.now) (made new.collector.now) before new.acc b in
          let Q : List g.row.X-Item-Content.Denot → Type 0 = λ l. IsFound (counted new.demand.now) (made new.collector.now) (before ++ l) end hit in
          let none = subst P c.if-is_hit.false found in
          subst Q (sym (flat_map-alone (X.left stream c.in-Some.progress) ∙ left))
          (found-more (counted new.demand.now) (made new.collector.now) before items c.in_ok-after.behind end hit none.1 c.in_ok-after.ensures.found
          (λ l is. c.in_ok-combine_containers.ensures before l none.0 is)),
    ) in
    let R : List g.row.X-Item-Content.Denot → Type 0 = λ l. IsFound (counted c.args.demand.now) (made c.args.collector.now) l end hit in
    record { found = subst R (flat_map-alone all) (took.2 [] ((All-nil is_value, c.in_ok-acc.ensures), refl)) }
