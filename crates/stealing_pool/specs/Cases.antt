-- The board's case of a run.
use Rattle.std.specs.Prelude.{ℕ}
use Rattle.leaf_board.specs.Case.{BoardCase}
use Rattle.stealing_pool.specs.Jobs.{Work}

abbrev pub case_of : {A : Type 0} → Work A → ℕ → BoardCase
case_of work seats = record { leaves = work.leaves; full = work.full; need = work.needed; seats = seats }
