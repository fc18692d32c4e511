use Rattle.std.proofs.Common.{◌≡◌, List, [], ◌++◌, ◌∙◌, ◌∷◌, flat_map, subst, refl, sym, ap, append-nil}
use Rattle.std.proofs.lemmas.List.Elements.{All-nil}
use Rattle.collectors.specs.Laws.{IsContainerOf}
use Rattle.leaf_reading.specs.KeeperLaws.{Offers}
use Rattle.parallel_streams.specs.LeafLaws.{flat_map-alone}
use Rattle.parallel_streams.proofs.Fronts.{took-all, took-front}
use Rattle.parallel_streams.proofs.alone.collect_alone.Goals as goal

pub returns-in_default : goal.returns-in_default
returns-in_default g c =
    let C = g.C.Collector in
    let is_value = g.X.Item.Value.is_value in
    let made : g.row.C.Denot → List g.row.X-Item-Content.Denot → g.row.C-Acc.Denot → Type 0 = λ it. IsContainerOf is_value (C.content it) (C.empty it) (C.add it) in
    let alone : List g.row.X-Item-Content.Denot → List g.row.X-Item-Content.Denot = flat_map (λ x. x ∷ []) in
    let all = g.X.Plumbing.value c.args.stream.now in
    let new = c.feed_front.new._sink in
    let took = took-all (record { collector = c.args.collector; acc = c.in_ok-acc.acc }) new
    (λ f xs e. (e.collector ≡ f.collector) × Offers (made f.collector.now) f.acc xs e.acc) alone all c.in_ok-rest.rest c.in_default.is c.in_ok-rest.ensures.all in
    record { made = subst (λ l. made c.args.collector.now l new.acc) (flat_map-alone all) (took.1 [] (All-nil is_value, c.in_ok-acc.ensures)) }

pub returns : goal.returns
returns g c =
    let C = g.C.Collector in
    let X = g.X.Plumbing in
    let stream = c.args.stream.now in
    let is_value = g.X.Item.Value.is_value in
    let made : g.row.C.Denot → List g.row.X-Item-Content.Denot → g.row.C-Acc.Denot → Type 0 = λ it. IsContainerOf is_value (C.content it) (C.empty it) (C.add it) in
    let alone : List g.row.X-Item-Content.Denot → List g.row.X-Item-Content.Denot = flat_map (λ x. x ∷ []) in
    let all = X.value stream in
    let new = c.feed_front.new._sink in
    let end = c.combine_containers.new.left in
    let next = c.in_ok-after.ensures.made in
    let left : X.left stream c.in-Some.progress ≡ next.0 = next.1 ∙ ap (λ l. next.0 ++ l) (c.if-not-is_last.ensures.last refl) ∙ append-nil next.0 in
    let took = took-front (record { collector = c.args.collector; acc = c.in_ok-acc.acc }) new
    (λ f xs e. (e.collector ≡ f.collector) × Offers (made f.collector.now) f.acc xs e.acc) alone all (X.left stream) c.in_ok-rest.rest c.in-Some.progress c.in-Some.is c.in_ok-rest.ensures.front
    (record { collector = new.collector; acc = end })
    (refl, λ before is. subst (λ l. made new.collector.now (before ++ l) end) (sym (flat_map-alone (X.left stream c.in-Some.progress) ∙ left)) (c.in_ok-combine_containers.ensures before next.0 is next.2)) in
    record { made = subst (λ l. made c.args.collector.now l end) (flat_map-alone all) (took.1 [] (All-nil is_value, c.in_ok-acc.ensures)) }
