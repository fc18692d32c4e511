-- What a summary says.
use Rattle.std.specs.Prelude.{◌≡◌, ℤ, pos, List, length, Option, Some, None, int_lt, if◌then◌else◌}
use Rattle.std.specs.Int.{int_min, int_max, int_div_euclid}
use Rattle.stages.specs.Wrapping.{wrapped}
use Rattle.collectors.specs.Sums.{int_sum}
use Rattle.collectors.specs.Reductions.{reduced}
use Rattle.derived_collectors.specs.Facts.{Facts}
use Rattle.derived_collectors.specs.declared.summarizing.Summary.{Summary}
use Rattle.derived_collectors.specs.declared.summarizing.Told.{Told}

-- what it tells of the numbers
abbrev pub told : Summary → Facts
told s = ((s.count, s.sum), (s.least, s.greatest))

abbrev pub told_of : Told → Facts
told_of t = ((t.count, t.sum), (Some t.least, Some t.greatest))

-- `s` is the summary of the numbers: each of its four parts is told of the whole list.
-- java.util.LongSummaryStatistics; java.util.stream.Collectors, summarizingLong.
pub record IsSummary (numbers : List ℤ) (s : Summary) : Type 0 where
  pub count : s.count ≡ wrapped (pos (length numbers))
  pub sum : s.sum ≡ wrapped (int_sum numbers)
  pub least : s.least ≡ reduced int_min numbers
  pub greatest : s.greatest ≡ reduced int_max numbers

-- the quotient rounded down, where the count is above 0
abbrev pub average_of : ℤ → ℤ → Option ℤ
average_of sum count = if int_lt (pos 0) count then Some (int_div_euclid sum count) else None
