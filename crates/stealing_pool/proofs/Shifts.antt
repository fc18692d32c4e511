-- The shifts of seats, one before others.
use Rattle.std.proofs.Common.{◌≡◌, ◌<◌, ◌∷◌, ℕ, zero, suc, List, length, subst, sym, ap, arith, Vec, Global}
use Rattle.std.specs.Prelude.{slice_index_or, Result, IfOk}
use Rattle.std.proofs.lemmas.Result.{IfOk-weaker}

-- two that have to do with one another, and each of two lists' places behind them
first_and_each : {S T : Type 0} (Gives : S → T → Type 0) (seat : S) (seats : List S) (shift : T) (shifts : List T)
    → Gives seat shift
    → ((k : ℕ) (d : S) (e : T) → k < length seats → Gives (slice_index_or seats k d) (slice_index_or shifts k e))
    → (k : ℕ) (d : S) (e : T) → k < length (seat ∷ seats) → Gives (slice_index_or (seat ∷ seats) k d) (slice_index_or (shift ∷ shifts) k e)
first_and_each Gives seat seats shift shifts first each zero d e within = first
first_and_each Gives seat seats shift shifts first each (suc k) d e within = each k d e (omega arith)

-- the same of lists that are these, where there is memory for the second
pub each_of_made : {S T E : Type 0} (Gives : S → T → Type 0) (seat : S) (seats all : List S) (shift : T) (shifts : List T) (made : Result (Vec T Global) E)
    → all ≡ seat ∷ seats → IfOk made (λ v. v.items ≡ shift ∷ shifts) → Gives seat shift
    → ((k : ℕ) (d : S) (e : T) → k < length seats → Gives (slice_index_or seats k d) (slice_index_or shifts k e))
    → IfOk made (λ v. (k : ℕ) (d : S) (e : T) → k < length all → Gives (slice_index_or all k d) (slice_index_or v.items k e))
each_of_made Gives seat seats all shift shifts made is_all is_made first each =
    let Each : List _ → List _ → Type 0 = λ xs ys. (k : ℕ) (d : _) (e : _) → k < length xs → Gives (slice_index_or xs k d) (slice_index_or ys k e) in
    IfOk-weaker made (λ v. v.items ≡ shift ∷ shifts) (λ v. Each all v.items)
    (λ v is. subst (λ xs. Each xs v.items) (sym is_all) (subst (λ ys. Each (seat ∷ seats) ys) (sym is) (first_and_each Gives seat seats shift shifts first each)))
    is_made

-- what holds of the first holds of the list's first
pub first_of_made : {T E : Type 0} (Ends : T → Type 0) (shift : T) (shifts : List T) (made : Result (Vec T Global) E)
    → IfOk made (λ v. v.items ≡ shift ∷ shifts) → Ends shift → IfOk made (λ v. (e : T) → Ends (slice_index_or v.items 0 e))
first_of_made Ends shift shifts made is_made first =
    IfOk-weaker made (λ v. v.items ≡ shift ∷ shifts) (λ v. (e : _) → Ends (slice_index_or v.items 0 e))
    (λ v is e. subst (λ l. Ends (slice_index_or l 0 e)) (sym is) first)
    is_made

-- what holds of each place of a list holds of its head, and of each place behind it
pub head_of_each : {S : Type 0} (P : S → Type 0) (seat : S) (seats all : List S) → all ≡ seat ∷ seats
    → ((k : ℕ) (d : S) → k < length all → P (slice_index_or all k d))
    → P seat
head_of_each P seat seats all is each = (subst (λ l. (k : ℕ) (d : _) → k < length l → P (slice_index_or l k d)) is each) 0 seat (omega arith)

pub tail_of_each : {S : Type 0} (P : S → Type 0) (seat : S) (seats all : List S) → all ≡ seat ∷ seats
    → ((k : ℕ) (d : S) → k < length all → P (slice_index_or all k d))
    → (k : ℕ) (d : S) → k < length seats → P (slice_index_or seats k d)
tail_of_each P seat seats all is each k d within = (subst (λ l. (j : ℕ) (e : _) → j < length l → P (slice_index_or l j e)) is each) (suc k) d (omega arith)

-- behind the only seat there is none
pub none_behind : {S : Type 0} (seat : S) (seats all : List S) → all ≡ seat ∷ seats → length all < 2 → (k : ℕ) (P : Type 0) → k < length seats → P
none_behind seat seats all is alone k P within = absurd (omega (arith, ap length is, alone, within))
