use Rattle.stages.specs.Wrapping.{wrapped_sum_assoc}
use Rattle.stream_tests.proofs.of_parallel_streams.own_functions.total.Goals as goal

pub reduce_optional-requires-clause-associative : goal.reduce_optional-requires-clause-associative
reduce_optional-requires-clause-associative g c κs = λ within x y z vx vy vz. wrapped_sum_assoc x y z
