-- What holds of the progress of a stream with barriers.
use Rattle.std.specs.Prelude.{◌≡◌, ◌<◌, ◌+◌, ◌++◌, ◌&&◌, ℕ, Bool, true, false, List, [], Option, Some, None, Result, Ok, Err, IfOk, map, length, slice_get, slice_index_or, refl}
use Rattle.std.proofs.Common.{sym, ap, ap₂, ◌∙◌, subst, arith, true≢false}
use Rattle.std.proofs.lemmas.List.{length-map, map-append}
use Rattle.std.proofs.lemmas.List.Elements.{All-append}
use Rattle.barriers.specs.Thinned.{IsThinned, thinned-both}
use Rattle.collectors.specs.NestedLaws.{listed, push}
use Rattle.leaf_board.specs.Case.{IsLawful}
use Rattle.stealing_pool.specs.Jobs.{Work, Combines, StandsForRun, EndsLeaf}
use Rattle.leaf_reading.specs.declared.leaf_end.LeafEnd.{LeafEnd}
use Rattle.leaf_reading.specs.declared.leaf_end.LeafEnd.TheVariants.{Done, Cut}
use Rattle.leaf_board.specs.Closing.{Outcome}
use Rattle.leaf_reading.specs.Fronts.{Folding, Folds, IsWithin, folding}
use Rattle.stealing_pool.specs.Spans.{full_count, joined, work_of}
use Rattle.stealing_pool.specs.SpanLaws.{spans-combine}
use Rattle.parallel_streams.specs.LeafLaws.{map-both, get-mapped}
use Rattle.parallel_streams.specs.Cuts.{cut_at, cut_at-map, joined-cut_at, length-cut_at}
use Rattle.parallel_streams.specs.Ends.{ends_of}
use Rattle.parallel_streams.specs.Leaves.{IsCutList}
use Rattle.parallel_streams.specs.LeafCutLaws.{IsCutList-ends}
use Rattle.parallel_streams.specs.Progress.{HoldsListed, IsCut, IsPlannedList, ToldSoFar, is_listed, is_ready, left_of, next_leaves, parts_of, barred_work, own_work, fronts_of, KeepsOwn, EndsThinned, EndedThinned, end_with, ended_with}
use Rattle.parallel_streams.specs.declared.kept.Listed.{Listed}
use Rattle.parallel_streams.specs.declared.kept.Kept.{Kept}
use Rattle.parallel_streams.specs.declared.kept.Kept.TheVariants.{Before, Own}

-- while the last run may not begin, nothing is listed
pub unready-unlisted : {T : Type 0} (passes done : Bool) (listed : Option (Listed T)) → is_ready passes done listed ≡ false → is_listed listed ≡ false
unready-unlisted passes done None unready = refl
unready-unlisted passes done (Some l) unready = absurd (true≢false unready)

-- where it may with nothing listed, the barrier lets pass what those before it left
pub ready-passes : (passes done : Bool) → (passes && done) ≡ true → (passes ≡ true) × (done ≡ true)
ready-passes true done is = (refl, is)
ready-passes false done is = absurd (true≢false (sym is))

-- the next run has the leaves that are told
pub barred-leaves : {P T : Type 0} (passes done : Bool) (before : Work P) (own : Work (List T)) (n : ℕ) (listed : Option (Listed T)) → is_ready passes done listed ≡ false
    → (done ≡ false → before.leaves ≡ n) → (done ≡ true → own.leaves ≡ n) → (barred_work done before own).leaves ≡ next_leaves n listed
barred-leaves passes done before own n (Some l) unrun of_before of_own = absurd (true≢false unrun)
barred-leaves passes true before own n None unrun of_before of_own = of_own refl
barred-leaves passes false before own n None unrun of_before of_own = of_before refl

-- the parts of a list are the list
pub joined-listed : {T C : Type 0} (content : T → C) (l : Listed T) → IsCut l → joined (cut_at 0 (ends_of l.places) (map content l.items.items)) ≡ map content l.items.items
joined-listed content l cut =
    let size : length l.items.items ≡ 0 + length (map content l.items.items) = let e = length-map l.items.items content in omega (arith, e) in
    joined-cut_at 0 (length l.items.items) (ends_of l.places) (map content l.items.items) cut size

-- Once the barrier has run, what it leaves are the parts of its list, and what it makes of the segments behind. A barrier that lets them pass leaves the parts as
-- they are.
pub left-parts_of : {T C : Type 0} (content : T → C) (value_behind : List C → List C) (left behind : List C) (parts : List (List C)) (passes done : Bool) (listed : Option (Listed T))
    → HoldsListed listed → (passes ≡ true → (l : List C) → value_behind l ≡ l) → is_ready passes done listed ≡ true → (done ≡ true → left ≡ joined parts ++ behind)
    → left_of content value_behind left behind listed ≡ joined (parts_of content parts listed) ++ value_behind behind
left-parts_of content value_behind left behind parts passes done None held same is law =
    let (lets, are_done) = ready-passes passes done is in
    same lets left ∙ law are_done ∙ ap (λ l. joined parts ++ l) (sym (same lets behind))
left-parts_of content value_behind left behind parts passes done (Some l) held same is law = ap (λ m. m ++ value_behind behind) (sym (joined-listed content l held))

-- while it has not run, it is what it makes of all that comes to it
pub left-unlisted : {T C : Type 0} (content : T → C) (value_behind : List C → List C) (left behind : List C) (listed : Option (Listed T)) → is_listed listed ≡ false
    → left_of content value_behind left behind listed ≡ value_behind left
left-unlisted content value_behind left behind None unrun = refl
left-unlisted content value_behind left behind (Some l) unrun = absurd (true≢false unrun)

module _ {T C : Type 0} (content : T → C) (needed needed_behind : Option ℕ) (value value_behind : List C → List C) (whole : List C) (workers target : ℕ) where
  -- and its state is that before any item
  pub fresh-unlisted : (passes : Bool) (listed : Option (Listed T)) → is_listed listed ≡ false
      → IsPlannedList content needed needed_behind value value_behind whole workers target passes listed → (needed_behind ≡ needed) × ((l : List C) → value_behind l ≡ value l)
  fresh-unlisted passes None unrun planned = (planned.1, planned.2)
  fresh-unlisted passes (Some l) unrun planned = absurd (true≢false unrun)

  pub joined-parts_of : (passes done : Bool) (parts : List (List C)) (listed : Option (Listed T)) → HoldsListed listed
      → IsPlannedList content needed needed_behind value value_behind whole workers target passes listed
      → is_ready passes done listed ≡ true → joined (parts_of content parts listed) ≡ value whole
  joined-parts_of passes done parts None held planned is = absurd (true≢false (sym (ready-passes passes done is).0 ∙ planned.0))
  joined-parts_of passes done parts (Some l) held planned is = joined-listed content l held ∙ planned.1

  -- the parts are the barrier's value, cut as a list of so many items is
  pub cut-parts_of : (passes done : Bool) (parts : List (List C)) (listed : Option (Listed T)) → HoldsListed listed
      → IsPlannedList content needed needed_behind value value_behind whole workers target passes listed
      → is_ready passes done listed ≡ true → IsCutList (value whole) workers target (parts_of content parts listed)
  cut-parts_of passes done parts None held planned is = absurd (true≢false (sym (ready-passes passes done is).0 ∙ planned.0))
  cut-parts_of passes done parts (Some l) held planned is = IsCutList-ends content workers target l.items.items (value whole) (ends_of l.places) planned.1 planned.0

pub count-parts_of : {T C : Type 0} (content : T → C) (n : ℕ) (parts : List (List C)) (passes done : Bool) (listed : Option (Listed T)) → is_ready passes done listed ≡ true
    → (done ≡ true → length parts ≡ n) → length (parts_of content parts listed) ≡ next_leaves n listed
count-parts_of content n parts passes done None is count = count (ready-passes passes done is).1
count-parts_of content n parts passes done (Some l) is count = length-cut_at 0 (ends_of l.places) (map content l.items.items)

module _ {P T : Type 0} (before : Work P) (own : Work (List T)) where
  pub combines-own : (done : Bool) (left right both : List T) → Combines own left right both → Combines (barred_work done before own) (Own left) (Own right) (Own both)
  combines-own true left right both h from middle to count more p q kept few following = h from middle to count more p q kept few following
  combines-own false left right both h from middle to count more p q kept few following = absurd kept

  -- parts of two kinds stand for no leaves
  pub combines-mixed : (done : Bool) (left : P) (right : List T) (both : Kept P T) → Combines (barred_work done before own) (Before left) (Own right) both
  combines-mixed true left right both from middle to count more p q kept few following = absurd kept
  combines-mixed false left right both from middle to count more p q kept few following = absurd following

  pub combines-mixed_own : (done : Bool) (left : List T) (right : P) (both : Kept P T) → Combines (barred_work done before own) (Own left) (Before right) both
  combines-mixed_own true left right both from middle to count more p q kept few following = absurd following
  combines-mixed_own false left right both from middle to count more p q kept few following = absurd kept

  pub stands-own : (done : Bool) (part : List T) → StandsForRun (barred_work done before own) (Own part) → (done ≡ true) × StandsForRun own part
  stands-own true part h = (refl, h)
  stands-own false part (to, count, within, keeps, end) = absurd keeps

  pub ends-before : (done : Bool) (cut i : ℕ) (end : LeafEnd P) → done ≡ false → EndsLeaf before cut i end → EndsLeaf (barred_work done before own) cut i (end_with Before end)
  ends-before true cut i end unrun h = absurd (true≢false unrun)
  ends-before false cut i (Done p) unrun h = h
  ends-before false cut i Cut unrun h = h

  pub ends-own : (done : Bool) (cut i : ℕ) (end : LeafEnd (List T)) → done ≡ true → EndsLeaf own cut i end → EndsLeaf (barred_work done before own) cut i (end_with Own end)
  ends-own true cut i (Done p) is h = h
  ends-own true cut i Cut is h = h
  ends-own false cut i end is h = absurd (true≢false (sym is))

module _ {P T : Type 0} (before : Work P) where
  module _ {C : Type 0} (needed : Option ℕ) (counted : C → Bool) (is_value : C → Type 0) (content : T → C) (value : List C → List C) (lists : List (List C)) where
    abbrev own : Work (List T)
    own = own_work needed counted is_value content value lists

    abbrev listing : Folding C (List C)
    listing = folding needed counted is_value [] push

    folds-both : (a b l m : List C) → Folds listing a l → Folds listing b m → Folds listing (a ++ b) (l ++ m)
    folds-both a b l m first second = (All-append is_value a b first.0 second.0, ap₂ (λ x y. x ++ y) (first.1 ∙ listed a) (second.1 ∙ listed b) ∙ sym (listed (a ++ b)))

    combines-thinned : (left right both : List T) → both ≡ left ++ right → Combines own left right both
    combines-thinned left right both joins from middle to count more p q (l, of_left, first) few (m, of_right, second) =
        let Left : List C → Type 0 = λ k. IsThinned needed value (l ++ m) k in (
          l ++ m,
          spans-combine listing (λ front. front) lists l m (l ++ m) (λ a b. folds-both a b l m) from middle to count more p q of_left few of_right,
          subst Left (sym (ap (map content) joins ∙ map-append content left right)) (thinned-both value needed l m (map content left) (map content right) first second),
        )

    pub combines-joined : (done : Bool) (kept following : Kept P T) (left right both : List T) → kept ≡ Own left → following ≡ Own right → both ≡ left ++ right → Combines (barred_work done before own) kept following (Own both)
    combines-joined done kept following left right both is_left is_right joins =
        let Q : Kept P T → Type 0 = λ k. Combines (barred_work done before own) k following (Own both) in
        let R : Kept P T → Type 0 = λ m. Combines (barred_work done before own) (Own left) m (Own both) in
        subst Q (sym is_left) (subst R (sym is_right) (combines-own before own done left right both (combines-thinned left right both joins)))

    abbrev Thinned : List T → List T → Type 0
    Thinned whole kept = IsThinned needed value (map content whole) (map content kept)

    keeps-thinned : (i n : ℕ) (whole : List T) (part : Kept P T) → (fronts_of needed counted is_value lists).Keeps i (i + 1) n (map content whole) → KeepsOwn (Thinned whole) part → KeepsOwn (own.Keeps i (i + 1) n) part
    keeps-thinned i n whole (Before k) keeps thinned = absurd thinned
    keeps-thinned i n whole (Own k) keeps thinned = (map content whole, keeps, thinned)

    -- what is left of a leaf's list stands for the leaf
    ends-thinned : (cut i : ℕ) (end : LeafEnd (List T)) (ended : LeafEnd (Kept P T)) (done : Bool) → done ≡ true → EndsThinned Thinned ended end
        → EndsLeaf (work_of listing (map content) lists) cut i end → EndsLeaf (barred_work done before own) cut i ended
    ends-thinned cut i end ended false is thinned h = absurd (true≢false (sym is))
    ends-thinned cut i Cut Cut true is thinned h = h
    ends-thinned cut i Cut (Done left) true is thinned h = absurd thinned
    ends-thinned cut i (Done p) Cut true is thinned h = absurd thinned
    ends-thinned cut i (Done p) (Done left) true is thinned h =
        let Q : ℕ → Type 0 = λ n. KeepsOwn (own.Keeps i (i + 1) n) left.kept × IsLawful needed (full_count counted lists i) n × IsWithin needed n in
        subst Q (sym thinned.0) (keeps-thinned i p.count p.kept left.kept h.0 thinned.1, h.1, h.2)

    pub ends-own_ok : {E : Type 0} (done : Bool) (cut i : ℕ) (end : Result (LeafEnd (List T)) E) (ended : Result (LeafEnd (Kept P T)) E) → EndedThinned Thinned ended end → done ≡ true
        → IfOk end (EndsLeaf (work_of listing (map content) lists) cut i) → IfOk ended (EndsLeaf (barred_work done before own) cut i)
    ends-own_ok done cut i end (Err refused) thinned is h = tt
    ends-own_ok done cut i (Ok end) (Ok ended) thinned is h = ends-thinned cut i end ended done is thinned h
    ends-own_ok done cut i (Err refused) (Ok ended) thinned is h = absurd thinned

-- the items of a leaf of a barrier's list
pub part-at : {T C D : Type 0} (content : T → C) (through : List C → List D) (before : List (List C)) (listed : Option (Listed T)) (l : Listed T) (i : ℕ) (part : List T)
    → listed ≡ Some l → slice_get (cut_at 0 (ends_of l.places) l.items.items) i ≡ Some part
    → slice_index_or (map through (parts_of content before listed)) i [] ≡ through (map content part)
part-at content through before listed l i part is found =
    let parts = cut_at 0 (ends_of l.places) l.items.items in
    let lists : map through (parts_of content before listed) ≡ map (λ p. through (map content p)) parts =
    ap (λ o. map through (parts_of content before o)) is ∙ ap (map through) (sym (cut_at-map content 0 (ends_of l.places) l.items.items)) ∙ map-both (map content) through parts in
    ap (λ ls. slice_index_or ls i []) lists ∙ get-mapped (λ p. through (map content p)) parts i part [] found

pub part-within : {T C D : Type 0} (content : T → C) (through : List C → List D) (n : ℕ) (parts : List (List C)) (passes done : Bool) (listed : Option (Listed T)) (i : ℕ)
    → is_ready passes done listed ≡ true → (done ≡ true → length parts ≡ n) → i < next_leaves n listed → i < length (map through (parts_of content parts listed))
part-within content through n parts passes done listed i is count within =
    let Q : ℕ → Type 0 = λ m. i < m in
    subst Q (sym (length-map (parts_of content parts listed) through ∙ count-parts_of content n parts passes done listed is count)) within

-- once the last barrier has run, the entries are all there
pub told-all : {T : Type 0} (passes done : Bool) (before all : List Outcome → Type 0) (listed : Option (Listed T)) (entries : List Outcome) → is_ready passes done listed ≡ true
    → ToldSoFar passes before all listed entries → all entries
told-all passes done before all None entries is told = absurd (true≢false (sym (ready-passes passes done is).0 ∙ told.0))
told-all passes done before all (Some l) entries is told = told

-- and before it they are those of the barriers before
pub told-before : {T : Type 0} (passes : Bool) (before all : List Outcome → Type 0) (listed : Option (Listed T)) (entries : List Outcome) → is_listed listed ≡ false
    → ToldSoFar passes before all listed entries → (passes ≡ false) × before entries
told-before passes before all None entries unrun told = told
told-before passes before all (Some l) entries unrun told = absurd (true≢false unrun)
