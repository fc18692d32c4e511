-- Each step keeps the board sound.
use Rattle.std.proofs.Common.{Some, None, ◌≡◌, ◌≢◌, ℕ, zero, suc, ◌+◌, ◌<◌, ◌≤◌, inl, inr, List, [], ◌∷◌, length, set, get_or, min, refl, sym, ap, ◌∙◌, subst, arith, if◌then◌else◌, length-set}
use Rattle.std.specs.Prelude.{slice_index, Contains}
use mathlib.Core.Logic.{dite}
use native.Mathlib.Decide.{ℕ_discrete, dec_lt, dec_le}
use Rattle.std.proofs.lemmas.List.{get_or-set_same, get_or-set_other}
use Rattle.leaf_board.specs.Case.{BoardCase, sum_to, IsJustified, IsLawful, share_end}
use Rattle.leaf_board.specs.Statuses.{Status, Unknown, Given, Skipped, Published}
use Rattle.leaf_board.specs.Knowledge.{Knowledge, knowledge, status_of, WasGiven, IsHeld, known_count, KnowsEnough, after_publish, after_look, after_cut, after_read, after_skip}
use Rattle.std.proofs.lemmas.Bool.{lt-ltb, le-ltb}
use Rattle.barriers.specs.Needs.{Reaches}
use Rattle.leaf_board.specs.Rule.{ticket_place, leaf_place, word_count, cut_word, ticket_word, leaf_word, IsPublished, found_empty, is_given, given_count, Fits, Sound}
use Rattle.leaf_board.proofs.Sums.{put, set_each, sum_below-least}
use Rattle.leaf_board.proofs.Moves.{Later, sound-moves, found_empty-same}

-- one word changed
pub later_set : (c : BoardCase) (words : List ℕ) (i x : ℕ) → i < length words
    → ((share : ℕ) → share < c.seats → ticket_place share ≡ i → slice_index words i ≤ x)
    → ((leaf : ℕ) → leaf_place c leaf ≡ i → slice_index words i ≢ 0 → x ≡ slice_index words i)
    → (0 ≡ i → x ≤ slice_index words i)
    → Later c words (set words i x)
later_set c words i x room ticket leaf cut = record {
  as_many = length-set words i x;
  tickets = λ share at. set_each (λ j v. slice_index words j ≤ v) words i x 0 (ticket_place share) room (λ is. ticket share at is) (λ _. omega arith);
  leaves = λ l some. set_each (λ j v. slice_index words j ≢ 0 → v ≡ slice_index words j) words i x 0 (leaf_place c l) room (λ is. leaf l is) (λ _ _. refl) some;
  cut = set_each (λ j v. v ≤ slice_index words j) words i x 0 0 room (λ is. cut is) (λ _. omega arith);
}

later_same : (c : BoardCase) (words : List ℕ) → Later c words words
later_same c words = record { as_many = refl; tickets = λ share at. omega arith; leaves = λ leaf some. refl; cut = omega arith }

-- a step that changes no word, no leaf and no share
quiet : (c : BoardCase) (words : List ℕ) (know : ℕ → Knowledge) (a : ℕ) (counts : List ℕ) (least looks reads : ℕ) → a < c.seats → Sound c words know
    → Fits c words a (knowledge (know a).leaves counts (know a).cuts least (know a).passed (know a).draws (know a).publishes looks reads)
    → Sound c words (put know a (knowledge (know a).leaves counts (know a).cuts least (know a).passed (know a).draws (know a).publishes looks reads))
quiet c words know a counts least looks reads below s fits =
    let k = knowledge (know a).leaves counts (know a).cuts least (know a).passed (know a).draws (know a).publishes looks reads in
    sound-moves c words words know a k below s
    (record {
      later = later_same c words;
      fits = fits;
      keeps_given = λ leaf g. g;
      new_given = λ leaf g. inl g;
      tickets = λ share leaf _ _ l. inl l;
      not_far = λ share at. subst (λ n. ticket_word words share ≤ share_end c share + n) (sym (found_empty-same c know a k share refl)) (s.not_far share at);
      keeps_published = λ leaf count p. p;
      words_by = λ leaf at some. inl some;
      keeps_cuts = λ cut h. h;
      cut = inl refl;
    })

-- a read of the cut word
pub read_sound : (c : BoardCase) (words : List ℕ) (know : ℕ → Knowledge) (a : ℕ) → a < c.seats → Sound c words know → Sound c words (put know a (after_read (know a) (cut_word words)))
read_sound c words know a below s =
    let f = s.fits a below in
    let k = know a in
    quiet c words know a k.counts (cut_word words) k.looks (k.reads + 1) below s
    (record {
      all_leaves = f.all_leaves;
      all_counts = f.all_counts;
      few_passed = f.few_passed;
      drew = f.drew;
      drawn = f.drawn;
      emptied = f.emptied;
      written = f.written;
      known = f.known;
      no_later_cut = s.cut_within;
      least_known = omega arith;
      own_cuts = λ cut h. (let x = f.own_cuts cut h in let y = f.least_known in (omega arith, x.1));
      right_of_cut = λ leaf h. (let x = f.right_of_cut leaf h in let y = f.least_known in omega arith);
    })

-- a look at a leaf's word
pub look_sound : (c : BoardCase) (words : List ℕ) (know : ℕ → Knowledge) (a leaf : ℕ) → a < c.seats → leaf < c.leaves → Sound c words know → Sound c words (put know a (after_look (know a) leaf (leaf_word c words leaf)))
look_sound c words know a leaf below at s =
    let f = s.fits a below in
    let k = know a in
    let word : ℕ = leaf_word c words leaf in
    quiet c words know a (set k.counts leaf word) k.least (k.looks + 1) k.reads below s
    (record {
      all_leaves = f.all_leaves;
      all_counts = length-set k.counts leaf word ∙ f.all_counts;
      few_passed = f.few_passed;
      drew = f.drew;
      drawn = f.drawn;
      emptied = f.emptied;
      written = f.written;
      known = λ l. set_each (λ j v. v ≢ 0 → leaf_word c words j ≡ v) k.counts leaf word 0 l (subst (λ n. leaf < n) (sym f.all_counts) at) (λ _ _. refl) (λ _. f.known l);
      no_later_cut = f.no_later_cut;
      least_known = f.least_known;
      own_cuts = f.own_cuts;
      right_of_cut = f.right_of_cut;
    })

contains_new : (cuts : List ℕ) (cut : ℕ) → Contains (cut ∷ cuts) cut
contains_new cuts cut = (0, omega arith, refl)

contains_old : (cuts : List ℕ) (cut x : ℕ) → Contains cuts x → Contains (cut ∷ cuts) x
contains_old cuts cut x h = (suc h.0, omega arith, h.2)

contains_each : (P : ℕ → Type 0) (cuts : List ℕ) (cut x : ℕ) → P cut → (Contains cuts x → P x) → Contains (cut ∷ cuts) x → P x
contains_each P cuts cut x new old (zero, below, is) = subst P is new
contains_each P cuts cut x new old (suc k, below, is) = old (k, omega arith, is)

-- what is enough stays enough where there is more
pub enough_more : (c : BoardCase) (a b : ℕ) → a ≤ b → Reaches c.need a → Reaches c.need b
enough_more c a b le h = elim c.need as (λ need. Reaches need a → Reaches need b) [ None ↦ λ no. no | Some r ↦ λ (m : r ≤ a). omega arith ] h

-- a count that a seat knows is at most the leaf's full count
known_lawful : (c : BoardCase) (words : List ℕ) (know : ℕ → Knowledge) (a leaf : ℕ) → a < c.seats → leaf < c.leaves → Sound c words know → known_count (know a) leaf ≤ c.full leaf
known_lawful c words know a leaf below at s =
    dite (ℕ_discrete (slice_index (know a).counts leaf) 0)
    (λ none. omega arith)
    (λ some.
    let e = (s.fits a below).known leaf some in
    let r = s.by_one leaf at (λ z. some (sym e ∙ z)) in
    let w = (s.fits r.0 r.1).written leaf r.2 r.3 in
    let x : leaf_word c words leaf ≡ suc r.2 = w.0 in
    let y : r.2 ≤ c.full leaf = w.1.0 in
    omega arith)

-- a cut that a seat's counts reach is justified
pub justified : (c : BoardCase) (words : List ℕ) (know : ℕ → Knowledge) (a cut : ℕ) → a < c.seats → cut < c.leaves → Sound c words know → KnowsEnough c (know a) cut → IsJustified c cut
justified c words know a cut below at s enough =
    (at, enough_more c (sum_to (known_count (know a)) cut) (sum_to c.full cut) (sum_below-least (known_count (know a)) c.full (suc cut) (λ i less. known_lawful c words know a i below (omega arith) s)) enough)

room_for_cut : (c : BoardCase) (words : List ℕ) → length words ≡ word_count c → 0 < length words
room_for_cut c words e = omega arith

-- a cut
pub cut_sound : (c : BoardCase) (words : List ℕ) (know : ℕ → Knowledge) (a cut : ℕ) → a < c.seats → Sound c words know → IsJustified c cut
    → Sound c (set words 0 (min (cut_word words) cut)) (put know a (after_cut (know a) cut (cut_word words)))
cut_sound c words know a cut below s just =
    let f = s.fits a below in
    let k = know a in
    let found : ℕ = cut_word words in
    let x : ℕ = min found cut in
    let after = set words 0 x in
    let now = after_cut k cut found in
    let room = room_for_cut c words s.sized in
    let later = later_set c words 0 x room (λ share at e. absurd (omega arith)) (λ leaf e. absurd (omega arith)) (λ _. omega arith) in
    let is : cut_word after ≡ x = get_or-set_same words 0 x 0 room in
    sound-moves c words after know a now below s
    (record {
      later = later;
      fits = record {
        all_leaves = f.all_leaves;
        all_counts = f.all_counts;
        few_passed = f.few_passed;
        drew = f.drew;
        drawn = λ share leaf at low high g. (let p = f.drawn share leaf at low high g in let q = later.tickets share at in omega arith);
        emptied = λ share at e. (let p = f.emptied share at e in let q = later.tickets share at in omega arith);
        written = λ leaf count p. (let t = f.written leaf count p in (later.leaves leaf (λ z. absurd (let e = t.0 in omega arith)) ∙ t.0, t.1));
        known = λ leaf some. (let t = f.known leaf some in later.leaves leaf (λ z. some (sym t ∙ z)) ∙ t);
        no_later_cut = (let y = just.0 in omega arith);
        least_known = omega arith;
        own_cuts = λ y. contains_each (λ n. (x ≤ n) × (n < c.leaves)) k.cuts cut y (omega arith, just.0) (λ h. (let p = f.own_cuts y h in let q = f.least_known in (omega arith, p.1)));
        right_of_cut = λ leaf h. (let p = f.right_of_cut leaf h in let q = f.least_known in omega arith);
      };
      keeps_given = λ leaf g. g;
      new_given = λ leaf g. inl g;
      tickets = λ share leaf at _ l. inl (subst (λ n. leaf < n) (get_or-set_other words 0 (ticket_place share) x 0 (λ e. omega arith)) l);
      not_far = λ share at. subst (λ n. n ≤ share_end c share + found_empty c (put know a now) share) (sym (get_or-set_other words 0 (ticket_place share) x 0 (λ e. omega arith))) (subst (λ n. ticket_word words share ≤ share_end c share + n) (sym (found_empty-same c know a now share refl)) (s.not_far share at));
      keeps_published = λ leaf count p. p;
      words_by = λ leaf at some. inl (subst (λ n. n ≢ 0) (get_or-set_other words 0 (leaf_place c leaf) x 0 (λ e. omega arith)) some);
      keeps_cuts = λ y h. contains_old k.cuts cut y h;
      cut = dite (dec_le found cut)
          (λ le. inl (is ∙ omega arith))
          (λ more. let e : cut_word after ≡ cut = is ∙ omega arith in inr (subst (λ n. Contains now.cuts n) (sym e) (contains_new k.cuts cut), subst (IsJustified c) (sym e) just));
    })

-- how many leaves are given, where one changes
pub given_count-set : (l : List Status) (i : ℕ) (x : Status) → i < length l → given_count (set l i x) + is_given (get_or l i Unknown) ≡ given_count l + is_given x
given_count-set [] i x h = absurd (omega arith)
given_count-set (y ∷ l) zero x h = omega arith
given_count-set (y ∷ l) (suc i) x h = let r = given_count-set l i x (omega arith) in omega arith

-- a place that isn't the default one is in the list
pub there : {A : Type 0} (l : List A) (i : ℕ) (d : A) → get_or l i d ≢ d → i < length l
there [] i d ne = absurd (ne refl)
there (x ∷ l) zero d ne = omega arith
there (x ∷ l) (suc i) d ne = let r = there l i d ne in omega arith

pub held_there : (k : Knowledge) (leaf : ℕ) → IsHeld k leaf → leaf < length k.leaves
held_there k leaf is = there k.leaves leaf Unknown (λ e. let x : Given ≡ Unknown = sym is ∙ e in cc)

held_given : (k : Knowledge) (leaf : ℕ) → IsHeld k leaf → WasGiven k leaf
held_given k leaf is e = let x : Given ≡ Unknown = sym is ∙ e in cc

-- the word of a leaf that is held is 0
held_word : (c : BoardCase) (words : List ℕ) (know : ℕ → Knowledge) (a leaf : ℕ) → a < c.seats → Sound c words know → IsHeld (know a) leaf → leaf_word c words leaf ≡ 0
held_word c words know a leaf below s is =
    dite (ℕ_discrete (leaf_word c words leaf) 0)
    (λ zero_word. zero_word)
    (λ some.
    let f = s.fits a below in
    let r = s.by_one leaf (let t = held_there (know a) leaf is in let e = f.all_leaves in omega arith) some in
    let given : WasGiven (know r.0) leaf = λ e. let x : Published r.2 ≡ Unknown = sym r.3 ∙ e in cc in
    let same : r.0 ≡ a = s.once r.0 a leaf r.1 below given (held_given (know a) leaf is) in
    let p : status_of (know a) leaf ≡ Published r.2 = subst (λ b. IsPublished (know b) leaf r.2) same r.3 in
    absurd (let x : Given ≡ Published r.2 = sym is ∙ p in cc))

-- the count of a leaf is written
pub publish_sound : (c : BoardCase) (words : List ℕ) (know : ℕ → Knowledge) (a leaf count : ℕ) → a < c.seats → Sound c words know → IsHeld (know a) leaf → IsLawful c.need (c.full leaf) count
    → Sound c (set words (leaf_place c leaf) (count + 1)) (put know a (after_publish (know a) leaf count))
publish_sound c words know a leaf count below s is lawful =
    let f = s.fits a below in
    let k = know a in
    let i : ℕ = leaf_place c leaf in
    let after = set words i (count + 1) in
    let now = after_publish k leaf count in
    let at = held_there k leaf is in
    let within : leaf < c.leaves = (let e = f.all_leaves in omega arith) in
    let room : i < length words = (let e = s.sized in omega arith) in
    let was = held_word c words know a leaf below s is in
    let later = later_set c words i (count + 1) room (λ share at e. absurd (omega arith)) (λ l e some. absurd (some was)) (λ e. absurd (omega arith)) in
    let word_is : leaf_word c after leaf ≡ count + 1 = get_or-set_same words i (count + 1) 0 room in
    sound-moves c words after know a now below s
    (record {
      later = later;
      fits = record {
        all_leaves = length-set k.leaves leaf (Published count) ∙ f.all_leaves;
        all_counts = length-set k.counts leaf (count + 1) ∙ f.all_counts;
        few_passed = f.few_passed;
        drew = (let g = given_count-set k.leaves leaf (Published count) at in let h : is_given (get_or k.leaves leaf Unknown) ≡ 1 = ap is_given is in let d = f.drew in omega arith);
        drawn = λ share l at_share low high g. (
            let old : WasGiven k l = set_each (λ j v. v ≢ Unknown → WasGiven k j) k.leaves leaf (Published count) Unknown l at (λ _ _. held_given k leaf is) (λ _ h. h) g in
            let p = f.drawn share l at_share low high old in
            let q = later.tickets share at_share in
            omega arith);
        emptied = λ share at_share e. (let p = f.emptied share at_share e in let q = later.tickets share at_share in omega arith);
        written = λ l n. set_each (λ j v. v ≡ Published n → (leaf_word c after j ≡ suc n) × IsLawful c.need (c.full j) n) k.leaves leaf (Published count) Unknown l at
            (λ _ e. let same : count ≡ n = cc in subst (λ m. (leaf_word c after leaf ≡ suc m) × IsLawful c.need (c.full leaf) m) same (word_is ∙ omega arith, lawful))
            (λ _ p. let t = f.written l n p in (later.leaves l (λ z. absurd (let e = t.0 in omega arith)) ∙ t.0, t.1));
        known = λ l. set_each (λ j v. v ≢ 0 → leaf_word c after j ≡ v) k.counts leaf (count + 1) 0 l (subst (λ n. leaf < n) (sym f.all_counts) within)
            (λ _ _. word_is)
            (λ _ some. let t = f.known l some in later.leaves l (λ z. some (sym t ∙ z)) ∙ t);
        no_later_cut = f.no_later_cut;
        least_known = (let p = f.least_known in let q = later.cut in omega arith);
        own_cuts = f.own_cuts;
        right_of_cut = λ l. set_each (λ j v. v ≡ Skipped → k.least < j) k.leaves leaf (Published count) Unknown l at (λ _ e. absurd (let x : Published count ≡ Skipped = e in cc)) (λ _. f.right_of_cut l);
      };
      keeps_given = λ l g. set_each (λ j v. WasGiven k j → v ≢ Unknown) k.leaves leaf (Published count) Unknown l at (λ _ _ e. cc) (λ _ h. h) g;
      new_given = λ l g. inl (set_each (λ j v. v ≢ Unknown → WasGiven k j) k.leaves leaf (Published count) Unknown l at (λ _ _. held_given k leaf is) (λ _ h. h) g);
      tickets = λ share l at_share _ less. inl (subst (λ n. l < n) (get_or-set_other words i (ticket_place share) (count + 1) 0 (λ e. omega arith)) less);
      not_far = λ share at_share. subst (λ n. n ≤ share_end c share + found_empty c (put know a now) share) (sym (get_or-set_other words i (ticket_place share) (count + 1) 0 (λ e. omega arith))) (subst (λ n. ticket_word words share ≤ share_end c share + n) (sym (found_empty-same c know a now share refl)) (s.not_far share at_share));
      keeps_published = λ l n p. set_each (λ j v. status_of k j ≡ Published n → v ≡ Published n) k.leaves leaf (Published count) Unknown l at (λ _ e. absurd (let x : Given ≡ Published n = sym is ∙ e in cc)) (λ _ h. h) p;
      words_by = λ l at_l some. dite (ℕ_discrete l leaf)
          (λ e. inr (count, subst (λ j. status_of now j ≡ Published count) (sym e) (get_or-set_same k.leaves leaf (Published count) Unknown at)))
          (λ ne. inl (subst (λ n. n ≢ 0) (get_or-set_other words i (leaf_place c l) (count + 1) 0 (λ e. ne (omega arith))) some));
      keeps_cuts = λ cut h. h;
      cut = inl (get_or-set_other words i 0 (count + 1) 0 (λ e. omega arith));
    })

-- a leaf right of a cut is skipped
skipped_sound : (c : BoardCase) (words : List ℕ) (know : ℕ → Knowledge) (a leaf : ℕ) → a < c.seats → Sound c words know → IsHeld (know a) leaf → cut_word words < leaf
    → Sound c words (put know a (knowledge (set (know a).leaves leaf Skipped) (know a).counts (know a).cuts (cut_word words) (know a).passed (know a).draws (know a).publishes (know a).looks ((know a).reads + 1)))
skipped_sound c words know a leaf below s is left =
    let f = s.fits a below in
    let k = know a in
    let now = knowledge (set k.leaves leaf Skipped) k.counts k.cuts (cut_word words) k.passed k.draws k.publishes k.looks (k.reads + 1) in
    let at = held_there k leaf is in
    sound-moves c words words know a now below s
    (record {
      later = later_same c words;
      fits = record {
        all_leaves = length-set k.leaves leaf Skipped ∙ f.all_leaves;
        all_counts = f.all_counts;
        few_passed = f.few_passed;
        drew = (let g = given_count-set k.leaves leaf Skipped at in let h : is_given (get_or k.leaves leaf Unknown) ≡ 1 = ap is_given is in let d = f.drew in omega arith);
        drawn = λ share l at_share low high g. f.drawn share l at_share low high (set_each (λ j v. v ≢ Unknown → WasGiven k j) k.leaves leaf Skipped Unknown l at (λ _ _. held_given k leaf is) (λ _ h. h) g);
        emptied = f.emptied;
        written = λ l n. set_each (λ j v. v ≡ Published n → (leaf_word c words j ≡ suc n) × IsLawful c.need (c.full j) n) k.leaves leaf Skipped Unknown l at (λ _ e. absurd (let x : Skipped ≡ Published n = e in cc)) (λ _. f.written l n);
        known = f.known;
        no_later_cut = s.cut_within;
        least_known = omega arith;
        own_cuts = λ cut h. (let x = f.own_cuts cut h in let y = f.least_known in (omega arith, x.1));
        right_of_cut = λ l. set_each (λ j v. v ≡ Skipped → cut_word words < j) k.leaves leaf Skipped Unknown l at (λ _ _. left) (λ _ h. (let x = f.right_of_cut l h in let y = f.least_known in omega arith));
      };
      keeps_given = λ l g. set_each (λ j v. WasGiven k j → v ≢ Unknown) k.leaves leaf Skipped Unknown l at (λ _ _ e. cc) (λ _ h. h) g;
      new_given = λ l g. inl (set_each (λ j v. v ≢ Unknown → WasGiven k j) k.leaves leaf Skipped Unknown l at (λ _ _. held_given k leaf is) (λ _ h. h) g);
      tickets = λ share l _ _ less. inl less;
      not_far = λ share at_share. subst (λ n. ticket_word words share ≤ share_end c share + n) (sym (found_empty-same c know a now share refl)) (s.not_far share at_share);
      keeps_published = λ l n p. set_each (λ j v. status_of k j ≡ Published n → v ≡ Published n) k.leaves leaf Skipped Unknown l at (λ _ e. absurd (let x : Given ≡ Published n = sym is ∙ e in cc)) (λ _ h. h) p;
      words_by = λ l _ some. inl some;
      keeps_cuts = λ cut h. h;
      cut = inl refl;
    })

-- the read of a skip
pub skip_sound : (c : BoardCase) (words : List ℕ) (know : ℕ → Knowledge) (a leaf : ℕ) → a < c.seats → Sound c words know → IsHeld (know a) leaf → Sound c words (put know a (after_skip (know a) leaf (cut_word words)))
skip_sound c words know a leaf below s is =
    dite (dec_lt (cut_word words) leaf)
    (λ left. subst (λ b. Sound c words (put know a (knowledge (if b then set (know a).leaves leaf Skipped else (know a).leaves) (know a).counts (know a).cuts (cut_word words) (know a).passed (know a).draws (know a).publishes (know a).looks ((know a).reads + 1)))) (sym (lt-ltb (cut_word words) leaf left)) (skipped_sound c words know a leaf below s is left))
    (λ not_left. subst (λ b. Sound c words (put know a (knowledge (if b then set (know a).leaves leaf Skipped else (know a).leaves) (know a).counts (know a).cuts (cut_word words) (know a).passed (know a).draws (know a).publishes (know a).looks ((know a).reads + 1)))) (sym (le-ltb (cut_word words) leaf (omega arith))) (read_sound c words know a below s))
