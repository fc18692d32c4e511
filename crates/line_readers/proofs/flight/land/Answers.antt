use Rattle.std.proofs.Common.{rules, ◌≡◌, [], string_bytes}
use Rattle.collectors.specs.Laws.{IsContainerOf}
use Rattle.line_readers.specs.Values.{values_of}
use Rattle.line_readers.proofs.Behind.{values-append}
use Rattle.line_readers.proofs.Flights.{landed, settled, taken-in}
use Rattle.line_readers.proofs.flight.land.Goals.{In_default}
use Rattle.line_readers.proofs.flight.land.Goals as goal

pub returns-then-is_over-clause-taken : goal.returns-then-is_over-clause-taken
returns-then-is_over-clause-taken g c = λ before lines begun.
    let own = c.args.passing.now in
    let it = own.collector.now in
    let made = IsContainerOf g.G.Out.Value.is_value (g.C.Collector.content it) (g.C.Collector.empty it) (g.C.Collector.add it) in
    let image = g.F.LineFunction.image own.function.now in
    let expand = g.G.Stage.expand own.stage.now in
    let values = values_of image expand in
    let joins = values-append image expand in
    let ours = λ (w : _). w.promise.passing.now ≡ own in
    let text = λ (w : _). string_bytes w.promise.text.value in
    settled made values joins ours text before lines (g.C.Collector.gives it) c.take_made.new.whole c.pop_front.new.self.items
    (λ l more is out told. c.is_over.ensures c.if-is_over.true l more is.0 is.1 out told)
    (taken-in made values joins ours text before lines c.loop-handle.flight.whole c.take_made.new.whole c.in-Some.handle c.pop_front.new.self.items c.loop-handle.flight.at_work.items c.in-Some.ensures.items c.in_ok-take_made.ensures (c.loop-handle.invariant before lines begun))

pub loop-handle-preserved : goal.loop-handle-preserved
loop-handle-preserved g c = λ before lines begun.
    let own = c.args.passing.now in
    let it = own.collector.now in
    let made = IsContainerOf g.G.Out.Value.is_value (g.C.Collector.content it) (g.C.Collector.empty it) (g.C.Collector.add it) in
    let image = g.F.LineFunction.image own.function.now in
    let expand = g.G.Stage.expand own.stage.now in
    let values = values_of image expand in
    let joins = values-append image expand in
    let ours = λ (w : _). w.promise.passing.now ≡ own in
    let text = λ (w : _). string_bytes w.promise.text.value in
    taken-in made values joins ours text before lines c.loop-handle.flight.whole c.take_made.new.whole c.in-Some.handle c.pop_front.new.self.items c.loop-handle.flight.at_work.items c.in-Some.ensures.items c.in_ok-take_made.ensures (c.loop-handle.invariant before lines begun)

none-left : (g : _) (c : In_default g) → c.loop-handle.flight.at_work.items ≡ []
none-left g c = search rules

pub returns-clause-taken : goal.returns-clause-taken
returns-clause-taken g c = λ before lines begun.
    let own = c.args.passing.now in
    let it = own.collector.now in
    let made = IsContainerOf g.G.Out.Value.is_value (g.C.Collector.content it) (g.C.Collector.empty it) (g.C.Collector.add it) in
    let image = g.F.LineFunction.image own.function.now in
    let expand = g.G.Stage.expand own.stage.now in
    let values = values_of image expand in
    let joins = values-append image expand in
    let ours = λ (w : _). w.promise.passing.now ≡ own in
    let text = λ (w : _). string_bytes w.promise.text.value in
    landed made values joins ours text before lines c.loop-handle.flight.whole c.loop-handle.flight.at_work.items (none-left g (goal.at.returns-clause-taken g c).In_default) (c.loop-handle.invariant before lines begun)
