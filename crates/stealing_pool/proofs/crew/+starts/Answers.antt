use Rattle.std.proofs.Common.{rules, ◌<◌, ℕ, length, slice_index_or}
use denote.Param.Send.{sendable}
use Rattle.std.proofs.lemmas.Result.{IfOk-at_ok}
use Rattle.stealing_pool.proofs.Shifts.{each_of_made, first_of_made, head_of_each, tail_of_each}
use Rattle.stealing_pool.proofs.crew.+starts.Goals as goal

pub join-shift-requires-after_bounds : goal.join-shift-requires-after_bounds
join-shift-requires-after_bounds g t c κs within =
    let whole = c.in-Some.ensures.items in (
      (search (rules, sendable) depth 20, head_of_each (g.W.Worker.accepts c.args.worker.now) c.in-Some.seat c.next.new.self.rest.items c.args.seats.rest.items whole c.requires),
      (
        search rules,
        (
          search rules,
          (
            search rules,
            (
              search rules,
              (
                search rules,
                (
                  (search (rules, sendable) depth 20, search (rules, sendable) depth 20, tail_of_each (g.W.Worker.accepts c.args.worker.now) c.in-Some.seat c.next.new.self.rest.items c.args.seats.rest.items whole c.requires),
                  search (rules, sendable) depth 20,
                ),
              ),
            ),
          ),
        ),
      ),
    )

pub returns-clause-each : goal.returns-clause-each
returns-clause-each g t c =
    let Gives = g.W.Worker.gives c.args.worker.now in
    let seats = c.next.new.self.rest.items in
    let behind : (k : ℕ) (d : _) (e : _) → k < length seats → Gives (slice_index_or seats k d) (slice_index_or c.in_ok-others.field-0.items k e) =
    IfOk-at_ok (λ v. (k : ℕ) (d : _) (e : _) → k < length seats → Gives (slice_index_or seats k d) (slice_index_or v.items k e)) c.in_ok-others.was c.join-shift.ensures.second.1 in
    each_of_made Gives c.in-Some.seat seats c.args.seats.rest.items c.join-shift.result.0 c.in_ok-others.field-0.items c.put_first.result c.in-Some.ensures.items c.put_first.ensures c.join-shift.ensures.first.0 behind

pub returns-clause-first : goal.returns-clause-first
returns-clause-first g t c = λ some. first_of_made (g.W.Worker.ends c.args.worker.now) c.join-shift.result.0 c.in_ok-others.field-0.items c.put_first.result c.put_first.ensures c.join-shift.ensures.first.1
