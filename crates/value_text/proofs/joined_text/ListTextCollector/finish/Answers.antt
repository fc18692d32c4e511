use Rattle.value_text.proofs.joined_text.ListTextCollector.finish.Goals as goal

pub returns : goal.returns
returns g c = λ l values made.
    rw (c.list.ensures.between, c.list.ensures.front, c.list.ensures.back) at (c.finish.ensures l values (rw c.list.ensures.between made))
