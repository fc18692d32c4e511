-- What one number's step changes, and that the board stays sound.
use Rattle.std.proofs.Common.{◌≡◌, ◌≢◌, ℕ, ◌+◌, ◌<◌, ◌≤◌, ◌⊎◌, ⊎_elim, List, length, refl, sym, ap, ◌∙◌, subst, arith}
use Rattle.std.specs.Prelude.{Contains}
use Rattle.leaf_board.specs.Case.{BoardCase, IsJustified, share_start, share_end}
use Rattle.leaf_board.specs.Knowledge.{Knowledge, WasGiven}
use Rattle.leaf_board.specs.Rule.{cut_word, ticket_word, leaf_word, IsPublished, found_empty, emptied_by, Fits, Sound}
use Rattle.leaf_board.proofs.Sums.{put, put_here, put_each, sum_below-same}

-- the words have moved on: tickets grow, a count stays, the cut falls
pub record Later (c : BoardCase) (before after : List ℕ) : Type 0 where
  pub as_many : length after ≡ length before
  pub tickets : (share : ℕ) → share < c.seats → ticket_word before share ≤ ticket_word after share
  pub leaves : (leaf : ℕ) → leaf_word c before leaf ≢ 0 → leaf_word c after leaf ≡ leaf_word c before leaf
  pub cut : cut_word after ≤ cut_word before

-- what a number knows still fits the words
pub fits-later : (c : BoardCase) (before after : List ℕ) (number : ℕ) (k : Knowledge) → Later c before after → Fits c before number k → Fits c after number k
fits-later c before after number k later f = record {
  all_leaves = f.all_leaves;
  all_counts = f.all_counts;
  few_passed = f.few_passed;
  drew = f.drew;
  drawn = λ share leaf s a b g. let x = f.drawn share leaf s a b g in let y = later.tickets share s in omega arith;
  emptied = λ share s e. let x = f.emptied share s e in let y = later.tickets share s in omega arith;
  written = λ leaf count p. let x = f.written leaf count p in (later.leaves leaf (λ z. absurd (let t = x.0 in omega arith)) ∙ x.0, x.1);
  known = λ leaf some. let x = f.known leaf some in later.leaves leaf (λ z. some (sym x ∙ z)) ∙ x;
  no_later_cut = f.no_later_cut;
  least_known = (let x = f.least_known in let y = later.cut in omega arith);
  own_cuts = f.own_cuts;
  right_of_cut = f.right_of_cut;
}

-- what a step of the number a owes: `after` are the words, and `k` is what it knows then
pub record Moves (c : BoardCase) (before after : List ℕ) (know : ℕ → Knowledge) (a : ℕ) (k : Knowledge) : Type 0 where
  pub later : Later c before after
  pub fits : Fits c after a k
  pub keeps_given : (leaf : ℕ) → WasGiven (know a) leaf → WasGiven k leaf
  pub new_given : (leaf : ℕ) → WasGiven k leaf → WasGiven (know a) leaf ⊎ ((b : ℕ) → b < c.seats → ¬ WasGiven (know b) leaf)
  pub tickets : (share leaf : ℕ) → share < c.seats → share_start c share ≤ leaf → leaf < ticket_word after share → (leaf < ticket_word before share) ⊎ (leaf < share_end c share → WasGiven k leaf)
  pub not_far : (share : ℕ) → share < c.seats → ticket_word after share ≤ share_end c share + found_empty c (put know a k) share
  pub keeps_published : (leaf count : ℕ) → IsPublished (know a) leaf count → IsPublished k leaf count
  pub words_by : (leaf : ℕ) → leaf < c.leaves → leaf_word c after leaf ≢ 0 → (leaf_word c before leaf ≢ 0) ⊎ ((count : ℕ) × IsPublished k leaf count)
  pub keeps_cuts : (cut : ℕ) → Contains (know a).cuts cut → Contains k.cuts cut
  pub cut : (cut_word after ≡ cut_word before) ⊎ (Contains k.cuts (cut_word after) × IsJustified c (cut_word after))

module _ (c : BoardCase) (before after : List ℕ) (know : ℕ → Knowledge) (a : ℕ) (k : Knowledge) (below : a < c.seats) (s : Sound c before know) (m : Moves c before after know a k) where
  once_after : (x y leaf : ℕ) → x < c.seats → y < c.seats → WasGiven (put know a k x) leaf → WasGiven (put know a k y) leaf → x ≡ y
  once_after x y leaf at_x at_y =
      put_each (λ i v. WasGiven v leaf → WasGiven (put know a k y) leaf → i ≡ y) know a k x
      (λ here g.
      put_each (λ j w. WasGiven w leaf → a ≡ j) know a k y
      (λ _ _. refl)
      (λ apart_y h. ⊎_elim (λ was. s.once a y leaf below at_y was h) (λ new. absurd (new y at_y h)) (m.new_given leaf g)))
      (λ apart g.
      put_each (λ j w. WasGiven w leaf → x ≡ j) know a k y
      (λ _ h. ⊎_elim (λ was. s.once x a leaf at_x below g was) (λ new. absurd (new x at_x g)) (m.new_given leaf h))
      (λ apart_y h. s.once x y leaf at_x at_y g h))

  given_after : (share leaf : ℕ) → share < c.seats → share_start c share ≤ leaf → leaf < share_end c share → leaf < ticket_word after share → (b : ℕ) × (b < c.seats) × WasGiven (put know a k b) leaf
  given_after share leaf at low high drawn =
      ⊎_elim
      (λ was. let r = s.given share leaf at low high was in (r.0, r.1, put_each (λ _ v. WasGiven v leaf) know a k r.0 (λ same. m.keeps_given leaf (subst (λ x. WasGiven (know x) leaf) same r.2)) (λ _. r.2)))
      (λ new. (a, below, subst (λ v. WasGiven v leaf) (sym (put_here know a k)) (new high)))
      (m.tickets share leaf at low drawn)

  by_one_after : (leaf : ℕ) → leaf < c.leaves → leaf_word c after leaf ≢ 0 → (b : ℕ) × (b < c.seats) × (count : ℕ) × IsPublished (put know a k b) leaf count
  by_one_after leaf at some =
      ⊎_elim
      (λ was. let r = s.by_one leaf at was in (r.0, r.1, r.2, put_each (λ _ v. IsPublished v leaf r.2) know a k r.0 (λ same. m.keeps_published leaf r.2 (subst (λ x. IsPublished (know x) leaf r.2) same r.3)) (λ _. r.3)))
      (λ new. (a, below, new.0, subst (λ v. IsPublished v leaf new.0) (sym (put_here know a k)) new.1))
      (m.words_by leaf at some)

  cut_made_after : cut_word after < c.leaves → (b : ℕ) × (b < c.seats) × Contains (put know a k b).cuts (cut_word after)
  cut_made_after less =
      ⊎_elim
      (λ same.
      let r = s.cut_made (subst (λ n. n < c.leaves) same less) in
      let old : Contains (know r.0).cuts (cut_word after) = subst (λ n. Contains (know r.0).cuts n) (sym same) r.2 in
      (r.0, r.1, put_each (λ _ v. Contains v.cuts (cut_word after)) know a k r.0 (λ is. m.keeps_cuts (cut_word after) (subst (λ x. Contains (know x).cuts (cut_word after)) is old)) (λ _. old)))
      (λ new. (a, below, subst (λ (v : Knowledge). Contains v.cuts (cut_word after)) (sym (put_here know a k)) new.0))
      m.cut

  cut_justified_after : cut_word after < c.leaves → IsJustified c (cut_word after)
  cut_justified_after less = ⊎_elim (λ same. subst (IsJustified c) (sym same) (s.cut_justified (subst (λ n. n < c.leaves) same less))) (λ new. new.1) m.cut

  -- the board is sound after the step
  pub sound-moves : Sound c after (put know a k)
  sound-moves = record {
    sized = m.later.as_many ∙ s.sized;
    fits = λ b at. put_each (λ i v. Fits c after i v) know a k b (λ _. m.fits) (λ _. fits-later c before after b (know b) m.later (s.fits b at));
    once = once_after;
    opened = λ share at. (let x = s.opened share at in let y = m.later.tickets share at in omega arith);
    given = given_after;
    not_far = m.not_far;
    by_one = by_one_after;
    cut_made = cut_made_after;
    cut_within = (let x = s.cut_within in let y = m.later.cut in omega arith);
    cut_justified = cut_justified_after;
  }

-- a step that finds no share empty leaves the numbers of those that did
pub found_empty-same : (c : BoardCase) (know : ℕ → Knowledge) (a : ℕ) (k : Knowledge) (share : ℕ) → k.passed ≡ (know a).passed → found_empty c (put know a k) share ≡ found_empty c know share
found_empty-same c know a k share same =
    sum_below-same (λ i. emptied_by c share i (put know a k i)) (λ i. emptied_by c share i (know i)) c.seats
    (λ i _. put_each (λ j v. emptied_by c share j v ≡ emptied_by c share j (know j)) know a k i
    (λ _. ap (λ (n : ℕ). emptied_by c share a (record k { passed = n })) same)
    (λ _. refl))
