use Rattle.stages.specs.Wrapping.{wrapped_sum_assoc}
use Rattle.stages.proofs.operators.WrapAdd.new.Goals as goal

pub returns : goal.returns
returns c = λ x y z _ _ _. wrapped_sum_assoc x y z
