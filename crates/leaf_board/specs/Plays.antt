-- What each step tells its caller: of the step, the seat before, the number found and the seat after.
use Rattle.std.specs.Prelude.{◌≡◌, ◌≢◌, ℕ, ◌+◌, ◌-◌, ◌<◌, ◌≤◌, [], slice_index, if◌then◌else◌, nat_lt}
use Rattle.atomic_table.specs.Table.{Me, Step}
use Rattle.leaf_board.specs.Case.{BoardCase, IsJustified, ring, share_end}
use Rattle.leaf_board.specs.Statuses.{Unknown}
use Rattle.leaf_board.specs.Knowledge.{Knowledge, status_of, after_leaf, after_empty, after_publish, after_look, after_cut, after_read, after_skip}
use Rattle.leaf_board.specs.Rule.{leaf_place, single}
use Rattle.leaf_board.specs.declared.view.View.{View}

abbrev pub Sat : Type 0
Sat = Me Unit View

abbrev pub sat : ℕ → Knowledge → Sat
sat number k = (single number k, [])

-- the step of a seat in use: what it knows after it, and what it learned
abbrev pub Tells : Sat → Sat → (ℕ → Knowledge → Knowledge) → (ℕ → Knowledge → Type 0) → Type 0
Tells m n after told = (number : ℕ) (k : Knowledge) → m ≡ sat number k → (n ≡ sat number (after number k)) × told number k

abbrev pub draws : BoardCase → Step Unit → Sat → ℕ → Sat → Type 0
draws c st m found n =
    Tells m n (λ number k. if nat_lt found (share_end c (ring c number k.passed)) then after_leaf k found else after_empty k)
    (λ number k. (k.draws < c.leaves + c.seats) × (found < share_end c (ring c number k.passed) → (found < c.leaves) × (status_of k found ≡ Unknown)))

abbrev pub publishes : BoardCase → Step Unit → Sat → ℕ → Sat → Type 0
publishes c st m found n = Tells m n (λ _ k. after_publish k (st.word - leaf_place c 0) (st.first - 1)) (λ _ k. Unit {0})

abbrev pub looks : BoardCase → Step Unit → Sat → ℕ → Sat → Type 0
looks c st m found n = Tells m n (λ _ k. after_look k (st.word - leaf_place c 0) found)
    (λ _ k. slice_index k.counts (st.word - leaf_place c 0) ≢ 0 → found ≡ slice_index k.counts (st.word - leaf_place c 0))

abbrev pub cuts : BoardCase → Step Unit → Sat → ℕ → Sat → Type 0
cuts c st m found n = Tells m n (λ _ k. after_cut k st.first found) (λ _ k. IsJustified c st.first)

abbrev pub reads : BoardCase → Step Unit → Sat → ℕ → Sat → Type 0
reads c st m found n = Tells m n (λ _ k. after_read k found) (λ _ k. (found ≤ k.least) × (found < c.leaves → IsJustified c found))

abbrev pub skips : BoardCase → ℕ → Step Unit → Sat → ℕ → Sat → Type 0
skips c leaf st m found n = Tells m n (λ _ k. after_skip k leaf found) (λ _ k. (found ≤ k.least) × (found < c.leaves → IsJustified c found))
