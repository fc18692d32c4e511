use Rattle.std.proofs.Common.{rules, subst, sym, ap, ◌∙◌, ◌≡◌, ◌≤◌, ◌-◌, ℤ, List, [], ◌∷◌, OnOk, flat_map, length, to_z, of_z, w64}
use Rattle.std.proofs.Math.ListN.{replicate}
use Rattle.std.proofs.lemmas.List.{map-id, nil_from_length}
use Rattle.pipeline_meaning.specs.NumberSteps.{steps_images}
use Rattle.pipeline_meaning.specs.declared.number_steps.NumberStep.TheVariants.{Map, Filter, Repeat}
use Rattle.pipeline_meaning.proofs.NumberFronts.{no-steps-left, first-step, part-and-rest, some-and-rest}
use Rattle.pipeline_meaning.proofs.number_copies.+repeating.Goals as goal

pub feed_steps-returns-in_default-clause-taken : goal.feed_steps-returns-in_default-clause-taken
feed_steps-returns-in_default-clause-taken g t c =
    let items = c.args.items.now.items in
    let P : List ℤ → Type 0 = λ l. OnOk c.take_all.result (g.K.Sink.takes c.args.sink.now l c.take_all.new.self) in
    subst P (map-id items ∙ no-steps-left c.args.steps.now items c.in_default.ensures.cases) c.take_all.ensures.taken

pub feed_steps-returns-in_ok-map_block-in-Map-clause-taken : goal.feed_steps-returns-in_ok-map_block-in-Map-clause-taken
feed_steps-returns-in_ok-map_block-in-Map-clause-taken g t c =
    let P : List ℤ → Type 0 = λ l. OnOk c.feed_steps.result (g.K.Sink.takes c.args.sink.now l c.feed_steps.new.sink) in
    subst P (first-step c.args.steps.now c.in-Some.later.now c.in-Some.step.now (Map c.in-Map.mapping) c.args.items.now.items _ c.in-Some.ensures.cases.0 c.in-Map.is c.in_ok-map_block-in-Map.ensures)
    c.feed_steps.ensures.taken

pub feed_steps-returns-in-Filter-clause-taken : goal.feed_steps-returns-in-Filter-clause-taken
feed_steps-returns-in-Filter-clause-taken g t c =
    let P : List ℤ → Type 0 = λ l. OnOk c.feed_steps-in-Filter.result (g.K.Sink.takes c.args.sink.now l c.feed_steps-in-Filter.new.sink) in
    subst P (first-step c.args.steps.now c.in-Some.later.now c.in-Some.step.now (Filter c.in-Filter.check) c.args.items.now.items _ c.in-Some.ensures.cases.0 c.in-Filter.is c.filter_block.ensures)
    c.feed_steps-in-Filter.ensures.taken

pub feed_steps-returns-in-Repeat-clause-taken : goal.feed_steps-returns-in-Repeat-clause-taken
feed_steps-returns-in-Repeat-clause-taken g t c =
    let number = c.in-Repeat.number in
    let P : List ℤ → Type 0 = λ l. OnOk c.feed_each.result (g.K.Sink.takes c.args.sink.now l c.feed_each.new.sink) in
    subst P
    (first-step c.args.steps.now c.in-Some.later.now c.in-Some.step.now (Repeat number) c.args.items.now.items _ c.in-Some.ensures.cases.0 c.in-Repeat.is
    (ap (flat_map (replicate number)) c.as_slice.ensures.value))
    c.feed_each.ensures.taken

pub feed_few-returns-then-is_full-clause-taken : goal.feed_few-returns-then-is_full-clause-taken
feed_few-returns-then-is_full-clause-taken g t c =
    c.copying.invariant.2 c.copying.sink (c.is_full.ensures c.if-is_full.true (flat_map (steps_images c.args.later.now) (flat_map (replicate c.args.number) c.copying.left.now)))

pub feed_few-returns-clause-taken : goal.feed_few-returns-clause-taken
feed_few-returns-clause-taken g t c =
    let P : List ℤ → Type 0 = λ l. g.K.Sink.takes c.copying.sink (flat_map (steps_images c.args.later.now) (flat_map (replicate c.args.number) l)) c.copying.sink in
    let none : length c.copying.left.now ≡ 0 = search rules in
    let empty : c.copying.left.now ≡ [] = nil_from_length c.copying.left.now none in
    c.copying.invariant.2 c.copying.sink (subst P (sym empty) (g.met.K.Sink.takes_none c.copying.sink))

pub feed_few-copying-preserved : goal.feed_few-copying-preserved
feed_few-copying-preserved g t c =
    let later = c.args.later.now in
    let number = c.args.number in
    let part = c.split_at.result.0.now in
    let rest = c.split_at.result.1.now in
    let given = flat_map (steps_images later) (flat_map (replicate number) part) in
    let left = flat_map (steps_images later) (flat_map (replicate number) rest) in
    let from = c.copying.sink in
    let to = c.feed_steps.new.sink in
    let P : List ℤ → Type 0 = λ l. g.K.Sink.takes from l to in
    let taken : g.K.Sink.takes from given to = subst P (ap (flat_map (steps_images later)) c.in_ok-copy_each.ensures) c.in_ok-feed_steps.ensures.taken in (
      g.met.K.Sink.stays_ready from to given taken c.copying.invariant.0,
      λ end spoilt. c.copying.invariant.1 end (g.met.K.Sink.spoils_later from to end given taken spoilt),
      λ end more. let Q : List ℤ → Type 0 = λ l. g.K.Sink.takes from l end in
          c.copying.invariant.2 end
          (subst Q (part-and-rest later number c.copying.left.now part rest c.split_at.ensures.by_index.0) (g.met.K.Sink.takes_both from to end given left taken more)),
    )

pub feed_many-copying-preserved : goal.feed_many-copying-preserved
feed_many-copying-preserved g t c =
    let later = c.args.later.now in
    let x = to_z w64 (of_z w64 c.args.x) in
    let part = c.min-part.result in
    let given = flat_map (steps_images later) (flat_map (replicate part) (x ∷ [])) in
    let left = flat_map (steps_images later) (replicate (c.copying.left - part) x) in
    let from = c.copying.sink in
    let to = c.feed_steps.new.sink in
    let P : List ℤ → Type 0 = λ l. g.K.Sink.takes from l to in
    let taken : g.K.Sink.takes from given to = subst P (ap (flat_map (steps_images later)) c.in_ok-copy_each.ensures) c.in_ok-feed_steps.ensures.taken in
    let within : part ≤ c.copying.left = search rules in (
      g.met.K.Sink.stays_ready from to given taken c.copying.invariant.0,
      λ end spoilt. c.copying.invariant.1 end (g.met.K.Sink.spoils_later from to end given taken spoilt),
      λ end more. let Q : List ℤ → Type 0 = λ l. g.K.Sink.takes from l end in
          c.copying.invariant.2 end (subst Q (some-and-rest later c.copying.left part x within) (g.met.K.Sink.takes_both from to end given left taken more)),
    )
