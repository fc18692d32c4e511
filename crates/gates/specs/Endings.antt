-- Runs that may end before their end.
use Rattle.gates.specs.declared.until.Ended.{Ended}
use Rattle.gates.specs.declared.until.Ended.TheVariants.{NoMemory, Halted}

-- what holds of the reason, where the run ended early
abbrev pub IfHalted : {R : Type 0} → (R → Type 0) → Ended R → Type 0
IfHalted P (Halted reason) = P reason
IfHalted P NoMemory = Unit {0}
