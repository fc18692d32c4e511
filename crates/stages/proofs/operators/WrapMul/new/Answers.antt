use Rattle.stages.specs.Products.{wrapped_product_assoc}
use Rattle.stages.proofs.operators.WrapMul.new.Goals as goal

pub returns : goal.returns
returns c = λ x y z _ _ _. wrapped_product_assoc x y z
