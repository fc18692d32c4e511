use Rattle.std.proofs.Common.{◌≡◌, ◌∙◌, ℤ, List}
use Rattle.std.specs.Prelude.{fold, []}
use Rattle.collectors.specs.NestedLaws.{push, listed}
use Rattle.pool_tests.proofs.of_stealing_pool.watched.MeetingListsCollector.finish.Goals as goal

same_list : (items l : List ℤ) → items ≡ fold push [] l → items ≡ l
same_list items l made = made ∙ listed l

pub returns : goal.returns
returns c = λ l values made. same_list c.args.acc.items l made
