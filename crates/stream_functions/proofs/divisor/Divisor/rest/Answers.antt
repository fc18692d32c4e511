use Rattle.std.proofs.Common.{arith, ◌≤◌, ◌*◌, ◌^◌}
use Rattle.stream_functions.proofs.Quotients.{high_below, high_above, rest_exact, rest_corrected}
use Rattle.stream_functions.proofs.divisor.Divisor.rest.Goals as goal

pub overflow_sub-rest : goal.overflow_sub-rest
overflow_sub-rest c = let d = c.args.self.now in high_below c.args.x d.number d.reciprocal (2 ^ 64) (omega arith) d.least (omega (arith, c.requires)) d.reciprocal_is

pub returns-then-rest-self : goal.returns-then-rest-self
returns-then-rest-self c =
    let d = c.args.self.now in
    let half : 2 * c.args.x ≤ 2 ^ 64 = omega (arith, c.requires) in
    rest_exact c.args.x d.number _ (high_below c.args.x d.number d.reciprocal (2 ^ 64) (omega arith) d.least half d.reciprocal_is) c.if-rest-self.true

pub returns-else-rest-self : goal.returns-else-rest-self
returns-else-rest-self c =
    let d = c.args.self.now in
    let half : 2 * c.args.x ≤ 2 ^ 64 = omega (arith, c.requires) in
    let below = high_below c.args.x d.number d.reciprocal (2 ^ 64) (omega arith) d.least half d.reciprocal_is in
    let above = high_above c.args.x d.number d.reciprocal (2 ^ 64) (omega arith) d.least half d.reciprocal_is in
    rest_corrected c.args.x d.number _ below above c.if-rest-self.false
