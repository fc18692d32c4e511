-- What barriers make of a list that comes in parts.
use Rattle.std.specs.Prelude.{◌≡◌, ℕ, zero, suc, Bool, true, false, cond, not, [], take, drop, Some, refl}
use Rattle.barriers.specs.Needs.{KeepsEnough}
use Rattle.barriers.specs.NeedLaws.{KeepsEnough-take_while}
use Rattle.barriers.specs.Whiles.{taken_while, left_while}

pub take-nothing : {X : Type 0} (n : ℕ) → take {A = X} n [] ≡ []
take-nothing zero = refl
take-nothing (suc n) = refl

pub drop-nothing : {X : Type 0} (n : ℕ) → drop {A = X} n [] ≡ []
drop-nothing zero = refl
drop-nothing (suc n) = refl

pub taken-nothing : {X : Type 0} (is_open : Bool) (p : X → Bool) → taken_while is_open p [] ≡ []
taken-nothing true p = refl
taken-nothing false p = refl

pub left-nothing : {X : Type 0} (is_dropping : Bool) (p : X → Bool) → left_while is_dropping p [] ≡ []
left-nothing true p = refl
left-nothing false p = refl

pub KeepsEnough-taken_while : {X : Type 0} (is_open : Bool) (p : X → Bool) → KeepsEnough (Some (cond is_open 1 0)) (λ x. not (p x)) (taken_while is_open p)
KeepsEnough-taken_while true p front more enough = KeepsEnough-take_while p front more enough
KeepsEnough-taken_while false p front more enough = refl
