use Rattle.std.proofs.Common.{◌≡◌, ◌++◌, string_bytes, ap, subst}
use Rattle.sources.specs.Lines.{text_lines}
use Rattle.collectors.specs.Laws.{IsContainerOf}
use Rattle.line_readers.specs.Flights.{IsFlying}
use Rattle.line_readers.specs.Values.{values_of}
use Rattle.line_readers.proofs.Behind.{values-append}
use Rattle.line_readers.proofs.Flights.{either-way, landed-more, set-off, settled, settled-later}
use Rattle.line_readers.proofs.flight.set_off.Goals as goal

pub returns-then-branch : goal.returns-then-branch
returns-then-branch g c = λ before lines begun.
    let own = c.args.passing.now in
    let it = own.collector.now in
    let made = IsContainerOf g.G.Out.Value.is_value (g.C.Collector.content it) (g.C.Collector.empty it) (g.C.Collector.add it) in
    let image = g.F.LineFunction.image own.function.now in
    let expand = g.G.Stage.expand own.stage.now in
    let values = values_of image expand in
    let joins = values-append image expand in
    settled-later made values before lines (g.C.Collector.gives it) c.land.new.flight.whole (text_lines (string_bytes c.args.text))
    (rw c.if-branch.true at c.in_ok-land-in-Err.ensures.taken before lines begun)

pub returns : goal.returns
returns g c = λ before lines begun.
    let own = c.args.passing.now in
    let it = own.collector.now in
    let made = IsContainerOf g.G.Out.Value.is_value (g.C.Collector.content it) (g.C.Collector.empty it) (g.C.Collector.add it) in
    let image = g.F.LineFunction.image own.function.now in
    let expand = g.G.Stage.expand own.stage.now in
    let values = values_of image expand in
    let joins = values-append image expand in
    let ours = λ (w : _). w.promise.passing.now ≡ own in
    let text = λ (w : _). string_bytes w.promise.text.value in
    let now = set-off made values joins ours text before lines c.args.flight.now.whole c.args.flight.now.at_work.items c.push_back.new.self.items c.in-Ok.handle
    c.in_ok-push_back-in-Ok.ensures.items c.in-Ok.ensures.passing begun in
    subst (λ bytes. IsFlying made values ours text before (lines ++ text_lines bytes) c.args.flight.now.whole c.push_back.new.self.items) (ap string_bytes c.in-Ok.ensures.text) now

pub returns-in-Err : goal.returns-in-Err
returns-in-Err g c = λ before lines begun.
    let own = c.args.passing.now in
    let it = own.collector.now in
    let made = IsContainerOf g.G.Out.Value.is_value (g.C.Collector.content it) (g.C.Collector.empty it) (g.C.Collector.add it) in
    let image = g.F.LineFunction.image own.function.now in
    let expand = g.G.Stage.expand own.stage.now in
    let values = values_of image expand in
    let joins = values-append image expand in
    let ours = λ (w : _). w.promise.passing.now ≡ own in
    let text = λ (w : _). string_bytes w.promise.text.value in
    let came = text_lines (string_bytes c.args.text) in
    let has = rw c.if-branch.false at c.in_ok-land-in-Err.ensures.taken before lines begun in
    let flies = landed-more made values joins ours text before lines c.land.new.flight.whole c.combine_containers.new.left came c.land.new.flight.at_work.items
    (c.in_ok-land-in-Err.ensures.landed c.if-branch.false) has
    (λ l is. c.in_ok-combine_containers-in-Err.ensures l (values came) is (rw c.in_ok-made-in-Err.was at c.in-Err.ensures.here)) in
    either-way c.is_over.result
    (λ over. settled made values joins ours text before (lines ++ came) (g.C.Collector.gives it) c.combine_containers.new.left c.land.new.flight.at_work.items
    (λ l more is out told. c.is_over.ensures over l more is.0 is.1 out told) flies)
    flies
