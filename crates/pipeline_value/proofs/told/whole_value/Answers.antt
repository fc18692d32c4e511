use Rattle.std.proofs.Common.{Ok, ap, sym}
use Rattle.pipeline_value.proofs.told.whole_value.Goals as goal

pub returns-in_ok-find_first_on-in-FindFirst : goal.returns-in_ok-find_first_on-in-FindFirst
returns-in_ok-find_first_on-in-FindFirst g c = rw c.in-FindFirst.is (rw c.in_ok-find_first_on-in-FindFirst.ensures at c.told_item.ensures)

pub returns-in_ok-collect_on-in-ToList : goal.returns-in_ok-collect_on-in-ToList
returns-in_ok-collect_on-in-ToList g c =
    rw c.in-ToList.is (ap Ok (sym (rw (c.list.ensures.between, c.list.ensures.front, c.list.ensures.back) at c.in_ok-collect_on-in-ToList.ensures.value)))
