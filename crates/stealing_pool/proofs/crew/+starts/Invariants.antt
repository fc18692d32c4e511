use Rattle.std.proofs.Common.{◌+◌, ◌*◌}
use Rattle.stealing_pool.proofs.crew.+starts.Given as goal

abbrev pub decreases-later : goal.decreases-later
decreases-later g l = 2 * l.seats.rest.len + 1

abbrev pub decreases-start_workers : goal.decreases-start_workers
decreases-start_workers g l = 2 * l.seats.rest.len
