-- A draw keeps the board sound, whether it finds a leaf or an empty share.
use Rattle.std.proofs.Common.{◌≡◌, ◌≢◌, ℕ, suc, ◌+◌, ◌<◌, ◌≤◌, ◌⊎◌, inl, inr, ⊎_elim, List, [], ◌∷◌, length, set, get_or, refl, sym, ap, ◌∙◌, subst, arith, nat_lt, if◌then◌else◌, length-set, true, false}
use mathlib.Core.Logic.{dite}
use native.Mathlib.Decide.{ℕ_discrete, dec_lt}
use Rattle.std.proofs.lemmas.List.{get_or-set_same, get_or-set_other}
use Rattle.std.proofs.lemmas.Bool.{lt-ltb, le-ltb}
use Rattle.std.proofs.lemmas.Bool.Decides.{nat_tests}
use Rattle.leaf_board.specs.Case.{BoardCase, IsLawful, share_start, share_end, distance, ring}
use Rattle.leaf_board.specs.Statuses.{Status, Unknown, Given, Skipped, Published}
use Rattle.leaf_board.specs.Knowledge.{Knowledge, status_of, WasGiven, after_leaf, after_empty}
use Rattle.leaf_board.specs.Rule.{ticket_place, leaf_place, ticket_word, leaf_word, FoundEmpty, found_empty, emptied_by, is_given, given_count, Sound}
use Rattle.leaf_board.proofs.Sums.{put, put_here, put_else, put_each, set_each, sum_below-least, sum_below-change, sum_below-ones}
use Rattle.leaf_board.proofs.Shares.{share_end-within, ring-within, distance-ring, distance-one, share_one}
use Rattle.leaf_board.proofs.Moves.{Later, sound-moves, found_empty-same}
use Rattle.leaf_board.proofs.Steps.{later_set, given_count-set}

-- a state of which it can't be that it is another is away
is_away : (s : Status) → ((s ≢ Unknown) → ⊥) → s ≡ Unknown
is_away Unknown given = refl
is_away Given given = absurd (given (λ e. cc))
is_away Skipped given = absurd (given (λ e. cc))
is_away (Published n) given = absurd (given (λ e. cc))

given_count-least : (l : List Status) → given_count l ≤ length l
given_count-least [] = omega arith
given_count-least (Unknown ∷ l) = let r = given_count-least l in omega arith
given_count-least (Given ∷ l) = let r = given_count-least l in omega arith
given_count-least (Skipped ∷ l) = let r = given_count-least l in omega arith
given_count-least (Published n ∷ l) = let r = given_count-least l in omega arith

module _ (c : BoardCase) (words : List ℕ) (know : ℕ → Knowledge) (a : ℕ) (below : a < c.seats) (s : Sound c words know) (more : (know a).passed < c.seats) where
  -- the share at which the number stands
  abbrev pub share_of : ℕ
  share_of = ring c a (know a).passed

  abbrev pub found_of : ℕ
  found_of = ticket_word words share_of

  abbrev pub words_of : List ℕ
  words_of = set words (ticket_place share_of) (found_of + 1)

  pub here : share_of < c.seats
  here = ring-within c a (know a).passed below more

  room : ticket_place share_of < length words
  room = let h = here in let e = s.sized in omega arith

  later : Later c words words_of
  later = later_set c words (ticket_place share_of) (found_of + 1) room (λ share at e. omega arith) (λ leaf e. absurd (let h = here in omega arith)) (λ e. absurd (omega arith))

  ticket_is : ticket_word words_of share_of ≡ found_of + 1
  ticket_is = get_or-set_same words (ticket_place share_of) (found_of + 1) 0 room

  ticket_else : (share : ℕ) → share ≢ share_of → ticket_word words_of share ≡ ticket_word words share
  ticket_else share ne = get_or-set_other words (ticket_place share_of) (ticket_place share) (found_of + 1) 0 (λ e. ne (omega arith))

  leaf_else : (leaf : ℕ) → leaf_word c words_of leaf ≡ leaf_word c words leaf
  leaf_else leaf = get_or-set_other words (ticket_place share_of) (leaf_place c leaf) (found_of + 1) 0 (λ e. let h = here in omega arith)

  -- the ticket is small
  pub ticket_small : found_of ≤ c.leaves + c.seats
  ticket_small =
      let n = s.not_far share_of here in
      let e = share_end-within c share_of here in
      let m : found_empty c know share_of ≤ c.seats = sum_below-ones (λ x. emptied_by c share_of x (know x)) c.seats (λ i. one (nat_lt (distance c i share_of) (know i).passed)) in
      omega arith
    where
      one : (b : _) → (if b then 1 else 0) ≤ 1
      one b = elim b as (λ v. (if v then 1 else 0) ≤ 1) [ true ↦ omega arith | false ↦ omega arith ]

  -- no draw but those that gave a leaf or found a share empty
  pub few_draws : (know a).draws < c.leaves + c.seats
  few_draws = let f = s.fits a below in let g = given_count-least (know a).leaves in let d = f.drew in let e = f.all_leaves in omega arith

  module _ (low : found_of < share_end c share_of) where
    pub within : found_of < c.leaves
    within = let e = share_end-within c share_of here in omega arith

    unseen : (b : ℕ) → b < c.seats → ¬ WasGiven (know b) found_of
    unseen b at g = let p = (s.fits b at).drawn share_of found_of here (s.opened share_of here) low g in omega arith

    pub was_away : status_of (know a) found_of ≡ Unknown
    was_away = is_away (status_of (know a) found_of) (λ g. unseen a below g)

    at : found_of < length (know a).leaves
    at = let w = within in let e = (s.fits a below).all_leaves in omega arith

    drawn_now : (share leaf : ℕ) → share < c.seats → share_start c share ≤ leaf → leaf < share_end c share → WasGiven (after_leaf (know a) found_of) leaf → leaf < ticket_word words_of share
    drawn_now share leaf at_share lo hi =
        set_each (λ j v. share_start c share ≤ j → j < share_end c share → v ≢ Unknown → j < ticket_word words_of share) (know a).leaves found_of Given Unknown leaf at
        (λ _ l h _. let same = share_one c share share_of found_of (let x = here in omega arith) l h (s.opened share_of here) low in subst (λ x. found_of < ticket_word words_of x) (sym same) (let t = ticket_is in omega arith))
        (λ _ l h g. let p = (s.fits a below).drawn share leaf at_share l h g in let q = later.tickets share at_share in omega arith)
        lo hi

    pub leaf_sound : Sound c words_of (put know a (after_leaf (know a) found_of))
    leaf_sound =
        let f = s.fits a below in
        let k = know a in
        let now = after_leaf k found_of in
        sound-moves c words words_of know a now below s
        (record {
          later = later;
          fits = record {
            all_leaves = length-set k.leaves found_of Given ∙ f.all_leaves;
            all_counts = f.all_counts;
            few_passed = f.few_passed;
            drew = (let g = given_count-set k.leaves found_of Given at in let h : is_given (get_or k.leaves found_of Unknown) ≡ 0 = ap is_given was_away in let d = f.drew in omega arith);
            drawn = drawn_now;
            emptied = λ share at_share e. (let p = f.emptied share at_share e in let q = later.tickets share at_share in omega arith);
            written = λ l n. set_each (λ j v. v ≡ Published n → (leaf_word c words_of j ≡ suc n) × IsLawful c.need (c.full j) n) k.leaves found_of Given Unknown l at (λ _ e. absurd (let x : Given ≡ Published n = e in cc)) (λ _ p. let t = f.written l n p in (leaf_else l ∙ t.0, t.1));
            known = λ l some. leaf_else l ∙ f.known l some;
            no_later_cut = f.no_later_cut;
            least_known = (let p = f.least_known in let q = later.cut in omega arith);
            own_cuts = f.own_cuts;
            right_of_cut = λ l. set_each (λ j v. v ≡ Skipped → k.least < j) k.leaves found_of Given Unknown l at (λ _ e. absurd (let x : Given ≡ Skipped = e in cc)) (λ _. f.right_of_cut l);
          };
          keeps_given = λ l g. set_each (λ j v. WasGiven k j → v ≢ Unknown) k.leaves found_of Given Unknown l at (λ _ _ e. cc) (λ _ h. h) g;
          new_given = λ l g. set_each (λ j v. v ≢ Unknown → WasGiven k j ⊎ ((b : ℕ) → b < c.seats → ¬ WasGiven (know b) j)) k.leaves found_of Given Unknown l at (λ _ _. inr unseen) (λ _ h. inl h) g;
          tickets = λ share l at_share _ less. dite (ℕ_discrete share share_of)
              (λ e. let t : ticket_word words_of share ≡ found_of + 1 = ap (ticket_word words_of) e ∙ ticket_is in let old : ticket_word words share ≡ found_of = ap (ticket_word words) e in
              dite (ℕ_discrete l found_of)
              (λ same. inr (λ _. subst (λ j. WasGiven now j) (sym same) (λ z. let x : Given ≡ Unknown = sym (get_or-set_same k.leaves found_of Given Unknown at) ∙ z in cc)))
              (λ apart. inl (omega arith)))
              (λ ne. inl (subst (λ n. l < n) (ticket_else share ne) less));
          not_far = λ share at_share. dite (ℕ_discrete share share_of)
              (λ e. subst (λ x. ticket_word words_of x ≤ share_end c x + found_empty c (put know a now) x) (sym e) (let t = ticket_is in omega arith))
              (λ ne. subst (λ n. n ≤ share_end c share + found_empty c (put know a now) share) (sym (ticket_else share ne)) (subst (λ n. ticket_word words share ≤ share_end c share + n) (sym (found_empty-same c know a now share refl)) (s.not_far share at_share)));
          keeps_published = λ l n p. set_each (λ j v. status_of k j ≡ Published n → v ≡ Published n) k.leaves found_of Given Unknown l at (λ _ e. absurd (let x : Unknown ≡ Published n = sym was_away ∙ e in cc)) (λ _ h. h) p;
          words_by = λ l _ some. inl (subst (λ n. n ≢ 0) (leaf_else l) some);
          keeps_cuts = λ cut h. h;
          cut = inl (get_or-set_other words (ticket_place share_of) 0 (found_of + 1) 0 (λ e. omega arith));
        })

  module _ (past : share_end c share_of ≤ found_of) where
    -- the number finds one share more empty
    one_more : (share : ℕ) → share < c.seats → FoundEmpty c a (after_empty (know a)) share → FoundEmpty c a (know a) share ⊎ (share ≡ share_of)
    one_more share at e =
        dite (dec_lt (distance c a share) (know a).passed)
        (λ less. inl less)
        (λ not_less. inr (distance-one c a share share_of below at here (let d = distance-ring c a (know a).passed below more in omega arith)))

    emptied_here : emptied_by c share_of a (know a) ≡ 0
    emptied_here = ap (λ b. if b then 1 else 0) (le-ltb (distance c a share_of) (know a).passed (let d = distance-ring c a (know a).passed below more in omega arith))

    emptied_then : emptied_by c share_of a (after_empty (know a)) ≡ 1
    emptied_then = ap (λ b. if b then 1 else 0) (lt-ltb (distance c a share_of) ((know a).passed + 1) (let d = distance-ring c a (know a).passed below more in omega arith))

    one_count : found_empty c (put know a (after_empty (know a))) share_of ≡ found_empty c know share_of + 1
    one_count =
        let now = after_empty (know a) in
        let f : ℕ → ℕ = λ i. emptied_by c share_of i (know i) in
        let g : ℕ → ℕ = λ i. emptied_by c share_of i (put know a now i) in
        let change = sum_below-change f g a c.seats below (λ j ne. ap (emptied_by c share_of j) (put_else know a now j ne)) in
        let e : g a ≡ 1 = ap (emptied_by c share_of a) (put_here know a now) ∙ emptied_then in
        let z : f a ≡ 0 = emptied_here in
        omega arith

    as_many : (share : ℕ) → found_empty c know share ≤ found_empty c (put know a (after_empty (know a))) share
    as_many share =
        sum_below-least (λ i. emptied_by c share i (know i)) (λ i. emptied_by c share i (put know a (after_empty (know a)) i)) c.seats
        (λ i _. put_each (λ j v. emptied_by c share j (know j) ≤ emptied_by c share j v) know a (after_empty (know a)) i
        (λ _. grind (arith, nat_tests))
        (λ _. omega arith))

    pub empty_sound : Sound c words_of (put know a (after_empty (know a)))
    empty_sound =
        let f = s.fits a below in
        let k = know a in
        let now = after_empty k in
        sound-moves c words words_of know a now below s
        (record {
          later = later;
          fits = record {
            all_leaves = f.all_leaves;
            all_counts = f.all_counts;
            few_passed = omega arith;
            drew = (let d = f.drew in omega arith);
            drawn = λ share l at_share lo hi g. (let p = f.drawn share l at_share lo hi g in let q = later.tickets share at_share in omega arith);
            emptied = λ share at_share e.
                ⊎_elim
                (λ old. let p = f.emptied share at_share old in let q = later.tickets share at_share in omega arith)
                (λ same. subst (λ x. share_end c x ≤ ticket_word words_of x) (sym same) (let t = ticket_is in omega arith))
                (one_more share at_share e);
            written = λ l n p. (let t = f.written l n p in (leaf_else l ∙ t.0, t.1));
            known = λ l some. leaf_else l ∙ f.known l some;
            no_later_cut = f.no_later_cut;
            least_known = (let p = f.least_known in let q = later.cut in omega arith);
            own_cuts = f.own_cuts;
            right_of_cut = f.right_of_cut;
          };
          keeps_given = λ l g. g;
          new_given = λ l g. inl g;
          tickets = λ share l at_share _ less. dite (ℕ_discrete share share_of)
              (λ e.
              let t : ticket_word words_of share ≡ found_of + 1 = ap (ticket_word words_of) e ∙ ticket_is in
              let old : ticket_word words share ≡ found_of = ap (ticket_word words) e in
              let end : share_end c share ≡ share_end c share_of = ap (share_end c) e in
              dite (ℕ_discrete l found_of)
              (λ same. inr (λ high. absurd (omega arith)))
              (λ apart. inl (omega arith)))
              (λ ne. inl (subst (λ n. l < n) (ticket_else share ne) less));
          not_far = λ share at_share. dite (ℕ_discrete share share_of)
              (λ e. subst (λ x. ticket_word words_of x ≤ share_end c x + found_empty c (put know a now) x) (sym e) (let t = ticket_is in let o = one_count in let n = s.not_far share_of here in omega arith))
              (λ ne. subst (λ n. n ≤ share_end c share + found_empty c (put know a now) share) (sym (ticket_else share ne)) (let m = as_many share in let n = s.not_far share at_share in omega arith));
          keeps_published = λ l n p. p;
          words_by = λ l _ some. inl (subst (λ n. n ≢ 0) (leaf_else l) some);
          keeps_cuts = λ cut h. h;
          cut = inl (get_or-set_other words (ticket_place share_of) 0 (found_of + 1) 0 (λ e. omega arith));
        })
