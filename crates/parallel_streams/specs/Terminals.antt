-- What the terminal operations answer, on the whole list in encounter order.
use Rattle.std.specs.Prelude.{◌≡◌, Bool, true, false, cond, List, [], ◌∷◌}

-- whether some member meets the test
-- java.util.stream.Stream, anyMatch
abbrev pub any_meets : {C : Type 0} → (C → Bool) → List C → Bool
any_meets p [] = false
any_meets p (x ∷ l) = cond (p x) true (any_meets p l)

-- whether every member does
-- java.util.stream.Stream, allMatch
abbrev pub all_meet : {C : Type 0} → (C → Bool) → List C → Bool
all_meet p [] = true
all_meet p (x ∷ l) = cond (p x) (all_meet p l) false

-- the value is one on the left: joined before any value it gives that value
-- java.util.stream.Stream, reduce (identity)
abbrev pub IsLeftIdentity : {C : Type 0} → (C → Type 0) → (C → C → C) → C → Type 0
IsLeftIdentity is_value join e = (x : _) → is_value x → join e x ≡ x
