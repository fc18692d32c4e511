-- What a keeper relies on.
use Rattle.std.specs.Prelude.{◌≡◌, ◌^◌, ℕ, Bool, Option}
use Rattle.barriers.specs.Needs.{IsBelow, CountsNone}

-- what a demand says of its need
pub record IsNeed {T : Type 0} (needed : Option ℕ) (counted : T → Bool) (need : Option ℕ) : Type 0 where
  pub same : need ≡ needed
  pub fits : IsBelow need (2 ^ 63)
  pub never : CountsNone need counted
