-- Operators that answer one of their two values.
use Rattle.std.specs.Prelude.{Bool, true, false, if◌then◌else◌}
use Rattle.std.specs.declared.cmp.Ordering.{Ordering}
use Rattle.std.specs.Ordering.{is_lt, is_gt}

-- the greater of two: the first where neither is
abbrev pub larger : {C : Type 0} → (C → C → Ordering) → C → C → C
larger order x y = if is_lt (order x y) then y else x

-- the lesser of two: the first where neither is
abbrev pub smaller : {C : Type 0} → (C → C → Ordering) → C → C → C
smaller order x y = if is_gt (order x y) then y else x

abbrev pub first_of : {C : Type 0} → C → C → C
first_of x y = x

abbrev pub last_of : {C : Type 0} → C → C → C
last_of x y = y

-- what holds of both values holds of the one that is chosen
pub either-value : {C : Type 0} (is_value : C → Type 0) (b : Bool) (x y : C) → is_value x → is_value y → is_value (if b then y else x)
either-value is_value true x y u v = v
either-value is_value false x y u v = u
