use Rattle.std.proofs.Common.{◌+◌, ◌*◌}
use Rattle.stealing_pool.proofs.combine.+forks.Given as goal

abbrev pub decreases-combine_part : goal.decreases-combine_part
decreases-combine_part g l = 4 * l.levels

abbrev pub decreases-combine_both : goal.decreases-combine_both
decreases-combine_both g l = 4 * l.levels + 2

abbrev pub decreases-combine_both-theirs : goal.decreases-combine_both-theirs
decreases-combine_both-theirs g l = 4 * l.levels + 1

abbrev pub decreases-combine_both-ours : goal.decreases-combine_both-ours
decreases-combine_both-ours g l = 4 * l.levels + 1
