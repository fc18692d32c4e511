use Rattle.std.proofs.Common.{◌++◌, ◌∙◌, List, ℕ, MatchBool, string_bytes, refl}
use Rattle.std.specs.Io.KnownBytes.{prepend_known}
use Rattle.collectors.specs.Laws.{IsContainerOf}
use Rattle.sources.specs.Lines.{text_lines}
use Rattle.line_blocks.proofs.Cuts.{folded-none}
use Rattle.line_readers.specs.Flights.{IsSettled}
use Rattle.line_readers.specs.Values.{values_of}
use Rattle.line_readers.proofs.Flights.{all-settled, all-told, folded-map, folded-on, none-flying}
use Rattle.line_readers.proofs.flight.fly_in.Invariants.{flying}
use Rattle.line_readers.proofs.flight.fly_in.Goals as goal

pub loop-init : goal.loop-init
loop-init g c = record {
  flies = λ before begun known first. (known, folded-none (λ lines flight. flying g c.args.passing.now before lines flight.whole flight.at_work.items) known known _ refl (none-flying before c.args.whole c.new.result.items refl c.new.ensures.items begun), first);
  stands = λ all stands. stands;
  longest = refl;
  last = c.requires.last;
}

pub returns-then-branch-clause-value : goal.returns-then-branch-clause-value
returns-then-branch-clause-value g c = λ before begun known first.
    let own = c.args.passing.now in
    let it = own.collector.now in
    let made = IsContainerOf g.G.Out.Value.is_value (g.C.Collector.content it) (g.C.Collector.empty it) (g.C.Collector.add it) in
    let gives = g.C.Collector.gives it in
    let values = values_of (g.F.LineFunction.image own.function.now) (g.G.Stage.expand own.stage.now) in
    let ahead = c.loop.invariant.flies before begun known first in
    all-settled made gives values before c.make_room.new.flight.whole known ahead.0 (folded-map (λ lines flight. flying g c.args.passing.now before lines flight.whole flight.at_work.items) (IsSettled made gives values before) known ahead.0 c.loop.flight c.make_room.new.flight.whole ahead.1
    (λ lines flies. rw c.if-branch.true at c.in_ok-make_room.ensures before lines flies))

pub returns-then-branch-2-clause-value : goal.returns-then-branch-2-clause-value
returns-then-branch-2-clause-value g c = λ before begun known first.
    let own = c.args.passing.now in
    let it = own.collector.now in
    let made = IsContainerOf g.G.Out.Value.is_value (g.C.Collector.content it) (g.C.Collector.empty it) (g.C.Collector.add it) in
    let gives = g.C.Collector.gives it in
    let values = values_of (g.F.LineFunction.image own.function.now) (g.G.Stage.expand own.stage.now) in
    let ahead = c.loop.invariant.flies before begun known first in
    let left = (prepend_known c.loop.blocks.rest.items (g.I.Read.remaining c.loop.blocks.reader)) in
    all-settled made gives values before c.set_off.new.flight.whole known left (folded-on (λ lines flight. flying g c.args.passing.now before lines flight.whole flight.at_work.items) (IsSettled made gives values before) known ahead.0 left c.loop.flight c.set_off.new.flight.whole (string_bytes c.loop.block.text) ahead.1 ahead.2
    (λ lines flies. rw c.if-branch-2.true at c.in_ok-set_off.ensures before lines (rw c.if-branch.false at c.in_ok-make_room.ensures before lines flies)))

pub returns-then-block-clause-value : goal.returns-then-block-clause-value
returns-then-block-clause-value g c = λ before begun known first.
    let own = c.args.passing.now in
    let it = own.collector.now in
    let made = IsContainerOf g.G.Out.Value.is_value (g.C.Collector.content it) (g.C.Collector.empty it) (g.C.Collector.add it) in
    let gives = g.C.Collector.gives it in
    let values = values_of (g.F.LineFunction.image own.function.now) (g.G.Stage.expand own.stage.now) in
    let ahead = c.loop.invariant.flies before begun known first in
    let left = (prepend_known c.loop.blocks.rest.items (g.I.Read.remaining c.loop.blocks.reader)) in
    let over = c.in_ok-_settled._settled in
    let told = λ (lines : List (List ℕ)) (acc : g.row.C-Acc.Denot). MatchBool over (IsSettled made gives values before lines acc) (made (before ++ values lines) acc) in
    all-told made gives values before c.land.new.flight.whole over known left (folded-on (λ lines flight. flying g c.args.passing.now before lines flight.whole flight.at_work.items) told known ahead.0 left c.loop.flight c.land.new.flight.whole (string_bytes c.loop.block.text) ahead.1 ahead.2
    (λ lines flies. c.in_ok-_settled.ensures.taken before (lines ++ text_lines (string_bytes c.loop.block.text)) (rw c.if-branch-2.false at c.in_ok-set_off.ensures before lines (rw c.if-branch.false at c.in_ok-make_room.ensures before lines flies))))
    (c.loop.invariant.last c.if-block.true)

pub returns-then-branch-3-clause-value : goal.returns-then-branch-3-clause-value
returns-then-branch-3-clause-value g c = λ before begun known first.
    let own = c.args.passing.now in
    let it = own.collector.now in
    let made = IsContainerOf g.G.Out.Value.is_value (g.C.Collector.content it) (g.C.Collector.empty it) (g.C.Collector.add it) in
    let gives = g.C.Collector.gives it in
    let values = values_of (g.F.LineFunction.image own.function.now) (g.G.Stage.expand own.stage.now) in
    let ahead = c.loop.invariant.flies before begun known first in
    let left = (prepend_known c.loop.blocks.rest.items (g.I.Read.remaining c.loop.blocks.reader)) in
    all-settled made gives values before c.land-in-Err.new.flight.whole known left (folded-on (λ lines flight. flying g c.args.passing.now before lines flight.whole flight.at_work.items) (IsSettled made gives values before) known ahead.0 left c.loop.flight c.land-in-Err.new.flight.whole (string_bytes c.loop.block.text) ahead.1 ahead.2
    (λ lines flies. rw c.if-branch-3.true at c.in_ok-land-in-Err.ensures.taken before (lines ++ text_lines (string_bytes c.loop.block.text)) (rw c.if-branch-2.false at c.in_ok-set_off.ensures before lines (rw c.if-branch.false at c.in_ok-make_room.ensures before lines flies))))

pub loop-preserved : goal.loop-preserved
loop-preserved g c =
    let left = (prepend_known c.loop.blocks.rest.items (g.I.Read.remaining c.loop.blocks.reader)) in
    record {
      flies = λ before begun known first.
          let ahead = c.loop.invariant.flies before begun known first in (
            left,
            folded-on (λ lines flight. flying g c.args.passing.now before lines flight.whole flight.at_work.items) (λ lines flight. flying g c.args.passing.now before lines flight.whole flight.at_work.items) known ahead.0 left c.loop.flight c.set_off.new.flight (string_bytes c.loop.block.text) ahead.1 ahead.2
                (λ lines flies. rw c.if-branch-2.false at c.in_ok-set_off.ensures before lines (rw c.if-branch.false at c.in_ok-make_room.ensures before lines flies)),
            c.in-Ok.ensures.block,
          );
      stands = λ all first. c.in-Ok.ensures.stands all (c.loop.invariant.stands all first);
      longest = c.in-Ok.ensures.longest ∙ c.loop.invariant.longest;
      last = c.in-Ok.ensures.last;
    }
