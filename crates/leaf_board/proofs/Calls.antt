-- The steps as the calls make them: at a seat in use, and by the numbers that the board keeps.
use Rattle.std.proofs.Common.{◌≡◌, ◌≢◌, ℕ, ◌+◌, ◌*◌, ◌-◌, ◌%◌, ◌^◌, ◌<◌, ◌≤◌, length, set, min, refl, sym, ap, ◌∙◌, subst, arith, nat_lt, if◌then◌else◌, length-set, true, false}
use Rattle.std.specs.Prelude.{slice_index}
use Rattle.std.proofs.lemmas.List.{get_or-set_same}
use mathlib.Core.Option.{none}
use Rattle.atomic_table.specs.Table.{step, Allows}
use Rattle.leaf_board.specs.Case.{BoardCase, IsLawful, ring}
use Rattle.leaf_board.specs.Statuses.{Skipped}
use Rattle.leaf_board.specs.Knowledge.{Knowledge, IsHeld, known_count, KnowsEnough, after_look, after_skip}
use Rattle.leaf_board.specs.Rule.{Orderly, leaf_place}
use Rattle.leaf_board.specs.Plays.{Sat, sat, draws, publishes, looks, cuts, reads, skips}
use Rattle.leaf_board.specs.Seats.{knowledge_in, IsInUse}
use Rattle.leaf_board.proofs.Allowed.{look_allowed, read_allowed, skip_allowed, cut_allowed, publish_allowed, draw_allowed, draw_place}

-- after a step that changed no share, the seat is in use as before
pub in_use : (c : BoardCase) (m n : Sat) (number passed : ℕ) (next : Knowledge) → IsInUse c m number passed → n ≡ sat number next → next.passed ≡ passed → length next.leaves ≡ c.leaves → next.draws ≤ c.leaves + c.seats → length next.counts ≡ c.leaves → IsInUse c n number passed
in_use c m n number passed next was is same sized few counted = subst (λ x. IsInUse c x number passed) (sym is) (refl, was.1, sym same, was.3, sized, few, counted)

module _ (c : BoardCase) (slots id : ℕ) (m : Sat) (number : ℕ) (is : m ≡ sat number (knowledge_in m.0)) where
  pub look_step : (seats leaf : ℕ) → seats ≡ c.seats → leaf < c.leaves → Allows (Orderly c) slots id m (8 * (1 + seats) + leaf) (λ n. n) (looks c (step slots (8 * (1 + seats) + leaf) 0 0 none) m)
  look_step seats leaf e at =
      subst (λ (s : ℕ). Allows (Orderly c) slots id m (8 * (1 + s) + leaf) (λ n. n) (looks c (step slots (8 * (1 + s) + leaf) 0 0 none) m)) (sym e)
      (subst (λ (x : Sat). Allows (Orderly c) slots id x (leaf_place c leaf) (λ n. n) (looks c (step slots (leaf_place c leaf) 0 0 none) x)) (sym is) (look_allowed c slots id number (knowledge_in m.0) leaf at))

-- the leaf of a word's place
pub leaf_of_place : (c : BoardCase) (seats leaf : ℕ) → seats ≡ c.seats → 8 * (1 + seats) + leaf - leaf_place c 0 ≡ leaf
leaf_of_place c seats leaf e = omega arith

-- what a look leaves, as contracts see it
pub look_knows : (c : BoardCase) (m n : Sat) (number seats leaf found : ℕ) (k : Knowledge) → seats ≡ c.seats → knowledge_in m.0 ≡ k → n ≡ sat number (after_look (knowledge_in m.0) (8 * (1 + seats) + leaf - leaf_place c 0) found) → knowledge_in n.0 ≡ after_look k leaf found
look_knows c m n number seats leaf found k e is told = ap (λ (x : Sat). knowledge_in x.0) told ∙ (λ i. after_look (is i) (leaf_of_place c seats leaf e i) found)

-- what a step leaves, as contracts see it
pub step_knows : (next : Knowledge → Knowledge) (m n : Sat) (number : ℕ) (k : Knowledge) → knowledge_in m.0 ≡ k → n ≡ sat number (next (knowledge_in m.0)) → knowledge_in n.0 ≡ next k
step_knows next m n number k is told = ap (λ (x : Sat). knowledge_in x.0) told ∙ ap next is

module _ (c : BoardCase) (slots id : ℕ) (m : Sat) (number : ℕ) (is : m ≡ sat number (knowledge_in m.0)) where
  pub read_step : Allows (Orderly c) slots id m 0 (λ n. n) (reads c (step slots 0 0 0 none) m)
  read_step = subst (λ (x : Sat). Allows (Orderly c) slots id x 0 (λ n. n) (reads c (step slots 0 0 0 none) x)) (sym is) (read_allowed c slots id number (knowledge_in m.0))

  pub skip_step : (leaf : ℕ) → IsHeld (knowledge_in m.0) leaf → Allows (Orderly c) slots id m 0 (λ n. n) (skips c leaf (step slots 0 0 0 none) m)
  skip_step leaf held = subst (λ (x : Sat). Allows (Orderly c) slots id x 0 (λ n. n) (skips c leaf (step slots 0 0 0 none) x)) (sym is) (skip_allowed c slots id number (knowledge_in m.0) leaf held)

  pub cut_step : (cut : ℕ) → cut < c.leaves → KnowsEnough c (knowledge_in m.0) cut → Allows (Orderly c) slots id m 0 (λ n. min n cut) (cuts c (step slots 0 cut 0 none) m)
  cut_step cut at enough = subst (λ (x : Sat). Allows (Orderly c) slots id x 0 (λ n. min n cut) (cuts c (step slots 0 cut 0 none) x)) (sym is) (cut_allowed c slots id number (knowledge_in m.0) cut at enough)

  pub publish_step : (seats leaf count : ℕ) → seats ≡ c.seats → IsHeld (knowledge_in m.0) leaf → IsLawful c.need (c.full leaf) count
      → Allows (Orderly c) slots id m (8 * (1 + seats) + leaf) (λ _. count + 1) (publishes c (step slots (8 * (1 + seats) + leaf) (count + 1) 0 none) m)
  publish_step seats leaf count e held lawful =
      subst (λ (s : ℕ). Allows (Orderly c) slots id m (8 * (1 + s) + leaf) (λ _. count + 1) (publishes c (step slots (8 * (1 + s) + leaf) (count + 1) 0 none) m)) (sym e)
      (subst (λ (x : Sat). Allows (Orderly c) slots id x (leaf_place c leaf) (λ _. count + 1) (publishes c (step slots (leaf_place c leaf) (count + 1) 0 none) x)) (sym is) (publish_allowed c slots id number (knowledge_in m.0) leaf count held lawful))

  pub draw_step : (share passed : ℕ) → share ≡ ring c number passed → passed ≡ (knowledge_in m.0).passed → c.leaves + c.seats < 2 ^ 63 → passed < c.seats
      → Allows (Orderly c) slots id m (8 * (1 + share)) (λ n. (n + 1) % 2 ^ 64) (draws c (step slots (8 * (1 + share)) 1 0 none) m)
  draw_step share passed e p small more =
      subst (λ (s : ℕ). Allows (Orderly c) slots id m (8 * (1 + s)) (λ n. (n + 1) % 2 ^ 64) (draws c (step slots (8 * (1 + s)) 1 0 none) m)) (sym (e ∙ ap (ring c number) p))
      (subst (λ (x : Sat). Allows (Orderly c) slots id x (draw_place c number (knowledge_in m.0)) (λ n. (n + 1) % 2 ^ 64) (draws c (step slots (draw_place c number (knowledge_in m.0)) 1 0 none) x)) (sym is) (draw_allowed c slots id number (knowledge_in m.0) small (subst (λ n. n < c.seats) p more)))

-- a skip leaves as many leaves
pub after_skip-leaves : (k : Knowledge) (leaf found : ℕ) → length (after_skip k leaf found).leaves ≡ length k.leaves
after_skip-leaves k leaf found = elim (nat_lt found leaf) as (λ b. length (if b then set k.leaves leaf Skipped else k.leaves) ≡ length k.leaves) [ true ↦ length-set k.leaves leaf Skipped | false ↦ refl ]

-- what a look found is the count that is known then
pub look_count : (c : BoardCase) (m n : Sat) (number seats leaf found : ℕ) → seats ≡ c.seats → length (knowledge_in m.0).counts ≡ c.leaves → leaf < c.leaves → n ≡ sat number (after_look (knowledge_in m.0) (8 * (1 + seats) + leaf - leaf_place c 0) found) → known_count (knowledge_in n.0) leaf ≡ found - 1
look_count c m n number seats leaf found e sized at told =
    ap (λ (k : Knowledge). known_count k leaf) (look_knows c m n number seats leaf found (knowledge_in m.0) e refl told)
    ∙ ap (λ (w : ℕ). w - 1) (get_or-set_same (knowledge_in m.0).counts leaf found 0 (subst (λ n. leaf < n) (sym sized) at))

-- a count that was known is what a look finds
pub look_stays : (c : BoardCase) (seats leaf found : ℕ) (k now : Knowledge) → seats ≡ c.seats → k ≡ now → (slice_index k.counts (8 * (1 + seats) + leaf - leaf_place c 0) ≢ 0 → found ≡ slice_index k.counts (8 * (1 + seats) + leaf - leaf_place c 0)) → slice_index now.counts leaf ≢ 0 → found ≡ slice_index now.counts leaf
look_stays c seats leaf found k now e is told = subst (λ (x : ℕ × Knowledge). slice_index x.1.counts x.0 ≢ 0 → found ≡ slice_index x.1.counts x.0) (λ i. (leaf_of_place c seats leaf e i, is i)) told
