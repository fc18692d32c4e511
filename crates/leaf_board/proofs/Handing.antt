-- The board's words in a pool's.
use Rattle.std.proofs.Common.{Option, None, ◌≡◌, ◌≢◌, ℕ, zero, suc, ◌+◌, ◌<◌, ◌≤◌, List, [], ◌∷◌, length, set, get_or, replicate, refl, sym, ap, ◌∙◌, subst, arith, nat_lt, if◌then◌else◌, true, false, Some, add-one, length-set, inl, inr}
use Rattle.std.specs.Prelude.{slice_get, slice_index, Contains}
use Rattle.std.proofs.lemmas.List.{get_or-set_other}
use Rattle.atomic_table.specs.Seated.{TableId}
use Rattle.barriers.specs.Needs.{Reaches}
use Rattle.leaf_board.specs.Statuses.{Status, Unknown, Given, Published, Skipped, Turns, Draws, AreSeats}
use Rattle.leaf_board.specs.declared.handout.Draw.{Draw}
use Rattle.leaf_board.specs.declared.handout.Draw.TheVariants.{Leaf, Drained}
use Rattle.leaf_board.specs.Records.{Closes}
use Rattle.leaf_board.specs.Case.{BoardCase, sum_below}
use Rattle.leaf_board.specs.Knowledge.{Knowledge, IsHeld, after_skip, known_count, KnowsEnough}
use Rattle.leaf_board.specs.Seats.{Holder, Gained, Answered, OnlyLooks, Settles}
use Rattle.leaf_board.specs.Closing.{Outcome, leaves_of, cut_of, count_of, AreOf, AreAll, AreNew, newcomer, IsRecordOf}
use Rattle.leaf_board.specs.Hands.{KnowsCount, MadeCut, is_unknown, unknown_count, IsOn, number_of, status_at, WasDrained, leaves_left}
use Rattle.leaf_board.proofs.Steps.{held_there}

-- the leaves that weren't given, after one leaf's state changed
unknown_set : (leaves : List Status) (i : ℕ) (s : Status) → i < length leaves → unknown_count (set leaves i s) + is_unknown (get_or leaves i Unknown) ≡ unknown_count leaves + is_unknown s
unknown_set [] i s at = absurd (omega arith)
unknown_set (x ∷ xs) zero s at = omega arith
unknown_set (x ∷ xs) (suc i) s at = let r = unknown_set xs i s (omega arith) in omega arith

-- a leaf in hand that is published or skipped leaves as many
pub spent_count : (k : Knowledge) (leaf : ℕ) (s : Status) → IsHeld k leaf → is_unknown s ≡ 0 → unknown_count (set k.leaves leaf s) ≡ unknown_count k.leaves
spent_count k leaf s is none =
    let e = unknown_set k.leaves leaf s (held_there k leaf is) in
    let h : is_unknown (get_or k.leaves leaf Unknown) ≡ 0 = ap is_unknown is in
    omega arith

pub skip_count : (k : Knowledge) (leaf found : ℕ) → IsHeld k leaf → unknown_count (after_skip k leaf found).leaves ≡ unknown_count k.leaves
skip_count k leaf found is = elim (nat_lt found leaf) as (λ b. unknown_count (if b then set k.leaves leaf Skipped else k.leaves) ≡ unknown_count k.leaves) [ true ↦ spent_count k leaf Skipped is refl | false ↦ refl ]

-- a draw that gave a leaf
gained_draws : (c : BoardCase) (before after : Holder) (leaf : ℕ) → Gained c before.knows leaf after.knows
    → (leaf < c.leaves) × (status_at before leaf ≡ Unknown) × Turns (status_at before) leaf Given (status_at after) × (leaves_left after < leaves_left before)
gained_draws c before after leaf gained =
    let was : get_or before.knows.leaves leaf Unknown ≡ Unknown = gained.1 in
    let now : after.knows.leaves ≡ set before.knows.leaves leaf Given = gained.2 in
    let at : leaf < length before.knows.leaves = subst (λ n. leaf < n) (ap length now ∙ length-set before.knows.leaves leaf Given) (held_there after.knows leaf gained.3) in
    let count = unknown_set before.knows.leaves leaf Given at in
    let one : is_unknown (get_or before.knows.leaves leaf Unknown) ≡ 1 = ap is_unknown was in
    let same : unknown_count after.knows.leaves ≡ unknown_count (set before.knows.leaves leaf Given) = ap unknown_count now in (
      gained.0,
      was,
      record {
        here = gained.3;
        others = λ j apart. ap (λ ls. get_or ls j Unknown) now ∙ (get_or-set_other before.knows.leaves leaf j Given Unknown apart);
      },
      omega arith,
    )

-- what a draw answered
pub handed : (c : BoardCase) (before after : Holder) (d : Draw ℕ) → Answered c before.knows d after.knows → Draws c.leaves (λ p. p) (status_at before) (leaves_left before) d (status_at after) (leaves_left after) (WasDrained c after)
handed c before after (Leaf leaf) told = gained_draws c before after leaf told
handed c before after Drained told = (λ j. ap (λ ls. get_or ls j Unknown) told.1, told.0)

-- a place of a list
get_there : (seats : List Holder) (j : ℕ) (s : Holder) → slice_get seats j ≡ Some s → (j < length seats) × ((d : Holder) → get_or seats j d ≡ s)
get_there [] j s e = absurd (cc)
get_there (y ∷ l) zero s e = (omega arith, λ d. (let x : Some y ≡ Some s = e in cc))
get_there (y ∷ l) (suc j) s e = let r = get_there l j s e in (omega arith, r.1)

there_get : (seats : List Holder) (j : ℕ) (d : Holder) → j < length seats → slice_get seats j ≡ Some (get_or seats j d)
there_get [] j d at = absurd (omega arith)
there_get (y ∷ l) zero d at = refl
there_get (y ∷ l) (suc j) d at = there_get l j d (omega arith)

-- the seats in their order are all of the board's
pub all_seats : (c : BoardCase) (board : TableId) (seats : List Holder) → AreSeats (IsOn board) number_of c.seats seats → AreOf board seats × AreAll c seats
all_seats c board seats are = (
  (λ s (j, e).
      let r = get_there seats j s e in
      subst (λ (h : Holder). h.board ≡ board) (r.1 s) (are.each j s r.0).0),
  (λ n below.
      let d : Holder = newcomer c board 0 in
      let at : n < length seats = (let a = are.all in omega arith) in
      (get_or seats n d, (n, there_get seats n d at), (are.each n d at).1)),
)

-- what the record says, in a pool's words
pub tells : (c : BoardCase) (board : TableId) (seats : List Holder) (r : Outcome) → IsRecordOf c seats r → Closes c.leaves c.full c.need status_at (WasDrained c) MadeCut seats (leaves_of r) (count_of r) (cut_of r)
tells c board seats r closes =
    record {
      all = closes.leaves;
      counts = λ i n at. (
        (λ e.
            let p = closes.published i n at e in
            let q = get_there seats p.1.0 p.0 p.1.1 in
            (p.1.0, q.0, λ d. subst (λ (h : Holder). status_at h i ≡ Published n) (sym (q.1 d)) p.2)),
        (λ (k, within, is).
            let d : Holder = newcomer c board 0 in
            (closes.counted (get_or seats k d) i n (k, there_get seats k d within) (is d)).1),
      );
      given = λ k within is i at.
          let d : Holder = newcomer c board 0 in
          let p = closes.drained (get_or seats k d) (k, there_get seats k d within) (is d) i at in
          let q = get_there seats p.1.0 p.0 p.1.1 in
          (p.1.0, q.0, λ d2. subst (λ (h : Holder). status_at h i ≢ Unknown) (sym (q.1 d2)) p.2);
      once = λ i j k in_j in_k given_j given_k.
          let d : Holder = newcomer c board 0 in
          closes.once j k i (get_or seats j d) (get_or seats k d) (there_get seats j d in_j) (there_get seats k d in_k) (given_j d) (given_k d);
      skipped = λ i (k, within, is).
          let d : Holder = newcomer c board 0 in
          let p = closes.skipped (get_or seats k d) i (k, there_get seats k d within) (is d) in
          (p.0, p.1, p.2, p.3);
      justified = λ cut e.
          let p = (closes.cut_made cut e).0 in
          (p.0, subst (λ n. Reaches c.need (sum_below c.full n)) (sym (add-one cut)) p.1);
      least = λ k i within made.
          let d : Holder = newcomer c board 0 in
          let (cut, at, own) = made d in
          let (least, is, low) = closes.cut_least (get_or seats k d) cut (k, there_get seats k d within) own in
          (least, is, (let l : least ≤ cut = low in omega arith));
    }

-- the counts so far are enough where one of them is
own_enough : (c : BoardCase) (k : Knowledge) (leaf n : ℕ) → known_count k leaf ≡ n → Reaches c.need n → KnowsEnough c k leaf
own_enough c k leaf n is reached =
    let more : n ≤ sum_below (known_count k) (suc leaf) = omega arith in
    elim c.need as (λ need. Reaches need n → Reaches need (sum_below (known_count k) (suc leaf))) [ None ↦ λ never. never | Some r ↦ λ (m : r ≤ n). omega arith ] reached

-- a settle keeps the seat's cuts, and makes one where a count that it knows is enough
pub settled_cuts : (need : Option ℕ) (c : BoardCase) (before after : Holder) (leaf : ℕ) → Settles need c before.knows leaf after.knows → (i : ℕ) → MadeCut before i → MadeCut after i
settled_cuts None c before after leaf same i made = subst (λ (k : Knowledge). (cut : ℕ) × (cut ≤ i) × Contains k.cuts cut) (sym same) made
settled_cuts (Some r) c before after leaf (inl (at, cut)) i (own, low, (k, below, is)) =
    (own, low, subst (λ (l : List ℕ). Contains l own) (sym cut.cuts) (suc k, omega arith, is))
settled_cuts (Some r) c before after leaf (inr none) i (own, low, is) = (own, low, subst (λ (l : List ℕ). Contains l own) (sym none.cuts) is)

pub settled_enough : (need : Option ℕ) (c : BoardCase) (before after : Holder) (leaf : ℕ) → need ≡ c.need → Settles need c before.knows leaf after.knows → OnlyLooks before.knows after.knows → (n : ℕ) → KnowsCount before leaf n → Reaches c.need n → MadeCut after leaf
settled_enough None c before after leaf same settles looks n known reached = absurd (subst (λ (x : Option ℕ). Reaches x n) (sym same) reached)
settled_enough (Some r) c before after leaf same (inl (at, cut)) looks n known reached =
    (at, cut.within, subst (λ (l : List ℕ). Contains l at) (sym cut.cuts) (0, omega arith, refl))
settled_enough (Some r) c before after leaf same (inr none) looks n known reached =
    let stays = looks.known leaf (λ z. (let k : slice_index before.knows.counts leaf ≡ n + 1 = known in omega arith)) in
    let now : known_count after.knows leaf ≡ n = (let k : slice_index before.knows.counts leaf ≡ n + 1 = known in omega arith) in
    absurd (none.none leaf (omega arith) (own_enough c after.knows leaf n now reached))

-- where the cuts are the same
pub same_cuts : (before after : Holder) → after.knows.cuts ≡ before.knows.cuts → (i : ℕ) → MadeCut before i → MadeCut after i
same_cuts before after is i (own, low, has) = (own, low, subst (λ (l : List ℕ). Contains l own) (sym is) has)

get_or_blank : (n i : ℕ) → get_or (replicate n Unknown) i Unknown ≡ Unknown
get_or_blank zero i = refl
get_or_blank (suc n) zero = refl
get_or_blank (suc n) (suc i) = get_or_blank n i

-- the seats of a new board
module _ (c : BoardCase) (board : TableId) (seats : List Holder) (new : AreNew c board seats) where
  new_seat : (k : ℕ) (d : Holder) → k < length seats → get_or seats k d ≡ newcomer c board k
  new_seat k d within = (get_there seats k (newcomer c board k) (new.1 k (let e = new.0 in omega arith))).1 d

  pub new_seats : AreSeats (IsOn board) number_of c.seats seats
  new_seats = record {
    all = new.0;
    each = λ k d within. (ap (λ (h : Holder). h.board) (new_seat k d within), ap (λ (h : Holder). h.number) (new_seat k d within));
  }

  pub new_fresh : (k : ℕ) (d : Holder) → k < length seats → (i : ℕ) → status_at (get_or seats k d) i ≡ Unknown
  new_fresh k d within i =
      ap (λ (h : Holder). status_at h i) (new_seat k d within) ∙ get_or_blank c.leaves i
