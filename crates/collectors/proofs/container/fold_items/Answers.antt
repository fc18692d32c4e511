use Rattle.std.proofs.Common.{[]}
use Rattle.collectors.proofs.container.fold_items.Goals as goal

pub returns : goal.returns
returns g c = c.in_ok-accumulate_items.ensures [] c.in_ok-acc.ensures
