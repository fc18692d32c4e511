use Rattle.std.proofs.Common.{◌≡◌, string_bytes}
use Rattle.collectors.specs.Laws.{IsContainerOf}
use Rattle.line_readers.specs.Values.{values_of}
use Rattle.line_readers.proofs.Behind.{values-append}
use Rattle.line_readers.proofs.Flights.{either-way, settled, taken-in}
use Rattle.line_readers.proofs.flight.make_room.Goals as goal

pub returns : goal.returns
returns g c = λ before lines begun.
    let own = c.args.passing.now in
    let it = own.collector.now in
    let made = IsContainerOf g.G.Out.Value.is_value (g.C.Collector.content it) (g.C.Collector.empty it) (g.C.Collector.add it) in
    let image = g.F.LineFunction.image own.function.now in
    let expand = g.G.Stage.expand own.stage.now in
    let values = values_of image expand in
    let joins = values-append image expand in
    let ours = λ (w : _). w.promise.passing.now ≡ own in
    let text = λ (w : _). string_bytes w.promise.text.value in
    let flies = taken-in made values joins ours text before lines c.args.flight.now.whole c.take_made.new.whole c.in-Some.handle c.pop_front.new.self.items c.args.flight.now.at_work.items c.in-Some.ensures.items c.in_ok-take_made.ensures begun in
    either-way c.is_over.result
    (λ over. settled made values joins ours text before lines (g.C.Collector.gives it) c.take_made.new.whole c.pop_front.new.self.items
    (λ l more is out told. c.is_over.ensures over l more is.0 is.1 out told) flies)
    flies
