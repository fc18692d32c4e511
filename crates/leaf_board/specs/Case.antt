-- What a board is made for, and which counts and cuts are right for it.
use Rattle.std.specs.Prelude.{◌≡◌, ℕ, zero, suc, ◌+◌, ◌-◌, ◌*◌, ◌/◌, ◌<◌, ◌≤◌, ◌⊎◌, Option, None, if◌then◌else◌, nat_lt, nat_le}
use Rattle.barriers.specs.Needs.{Reaches}

-- The leaves are numbered from 0, and full i is the number of counting items of leaf i
pub record BoardCase : Type 0 where
  pub leaves : ℕ
  pub full : ℕ → ℕ
  -- how many counting items are needed, if any number is enough
  pub need : Option ℕ
  pub seats : ℕ

-- f 0 + .. + f (n - 1)
abbrev pub sum_below : (ℕ → ℕ) → ℕ → ℕ
sum_below f zero = 0
sum_below f (suc n) = sum_below f n + f n

-- f 0 + .. + f n
abbrev pub sum_to : (ℕ → ℕ) → ℕ → ℕ
sum_to f n = sum_below f (suc n)

-- leaves 0 to cut together are enough
abbrev pub IsJustified : BoardCase → ℕ → Type 0
IsJustified c cut = (cut < c.leaves) × Reaches c.need (sum_to c.full cut)

-- the full count, or a smaller one that is enough
abbrev pub IsLawful : Option ℕ → ℕ → ℕ → Type 0
IsLawful need full count = (count ≤ full) × ((count ≡ full) ⊎ Reaches need count)

-- the leaves of share w are those from share_start w up to, not including, share_start (w + 1)
abbrev pub share_start : BoardCase → ℕ → ℕ
share_start c share = share * c.leaves / c.seats

abbrev pub share_end : BoardCase → ℕ → ℕ
share_end c share = share_start c (suc share)

-- the share that lies `steps` steps round the ring from this one
abbrev pub ring : BoardCase → ℕ → ℕ → ℕ
ring c number steps = if nat_lt (number + steps) c.seats then number + steps else number + steps - c.seats

-- how many steps round the ring the share lies from this one
abbrev pub distance : BoardCase → ℕ → ℕ → ℕ
distance c number share = if nat_le number share then share - number else share + c.seats - number

-- the case of no board
abbrev pub no_case : BoardCase
no_case = record { leaves = 0; full = λ _. 0; need = None; seats = 0 }
