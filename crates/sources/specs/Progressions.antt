-- Numbers by one step, each as an i64 keeps it.
-- java.util.stream.LongStream, iterate by a sum
use Rattle.std.specs.Prelude.{ℕ, zero, suc, ℤ, pos, ◌+ℤ◌, ◌*ℤ◌, List, [], ◌∷◌}
use Rattle.std.specs.Int.{int_wrap, w64}

-- n numbers from a on
abbrev pub progression : ℤ → ℤ → ℕ → List ℤ
progression a step zero = []
progression a step (suc n) = a ∷ progression (int_wrap w64 (a +ℤ step)) step n

-- the number so many steps on
abbrev pub steps_on : ℤ → ℤ → ℕ → ℤ
steps_on a step n = int_wrap w64 (a +ℤ pos n *ℤ step)
