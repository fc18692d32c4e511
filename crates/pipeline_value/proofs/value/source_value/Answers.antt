use Rattle.pipeline_value.proofs.value.source_value.Goals as goal

pub returns-in-Range : goal.returns-in-Range
returns-in-Range g c = rw c.in-Range.is (rw c.open_numbers.ensures at c.range_value.ensures)

pub returns-in-Closed : goal.returns-in-Closed
returns-in-Closed g c = rw c.in-Closed.is (rw c.closed_numbers.ensures at c.range_value-in-Closed.ensures)
