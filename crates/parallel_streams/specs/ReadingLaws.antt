-- What holds of how much is read.
use Rattle.std.specs.Prelude.{◌≡◌, ◌≢◌, ◌≤◌, ◌+◌, ℕ, Bool, true, false, cond, List, [], ◌++◌, Option, Some, None, count_by, length, map, take, flat_map, refl}
use Rattle.std.proofs.Common.{sym, ap, ◌∙◌, subst, arith, ⊎_elim, append-nil, append_assoc, true≢false}
use Rattle.std.proofs.lemmas.List.{length-append}
use Rattle.std.proofs.lemmas.List.Concat.{flat_map-append}
use Rattle.std.proofs.lemmas.List.Sums.{sum_by-append}
use Rattle.std.proofs.lemmas.Bool.{cases_lt}
use Rattle.std.proofs.Math.Seq.{take-append_seam}
use Rattle.barriers.specs.Needs.{IsEnough, IsOutcome, less_needed}
use Rattle.parallel_streams.specs.LeafLaws.{joined-leaves, joined-through}
use Rattle.parallel_streams.specs.Progress.{HoldsListed, is_listed, is_ready, parts_of}
use Rattle.parallel_streams.specs.ProgressLaws.{joined-listed, ready-passes}
use Rattle.parallel_streams.specs.Reading.{HasRead, HasReadFrom, ReadsBarred, ReadsLittle, StandsBehind, first_segment, most_read}
use Rattle.parallel_streams.specs.declared.kept.Listed.{Listed}
use Rattle.stealing_pool.specs.Spans.{joined}

pub count-both : {C : Type 0} (counted : C → Bool) (l r : List C) → count_by counted (l ++ r) ≡ count_by counted l + count_by counted r
count-both counted l r = sum_by-append (λ x. cond (counted x) 1 0) l r

-- fewer are needed, and again fewer
pub less-both : (needed : Option ℕ) (m n : ℕ) → less_needed (less_needed needed m) n ≡ less_needed needed (m + n)
less-both None m n = refl
less-both (Some r) m n = ap Some (omega arith)

pub less-nothing : (needed : Option ℕ) → needed ≡ less_needed needed 0
less-nothing None = refl
less-nothing (Some r) = ap Some (omega arith)

-- what a run kept lessens the need as the whole list does
pub less-outcome : {C : Type 0} (needed : Option ℕ) (counted : C → Bool) (whole front : List C) → IsOutcome needed counted whole front
    → less_needed needed (count_by counted front) ≡ less_needed needed (count_by counted whole)
less-outcome None counted whole front outcome = refl
less-outcome (Some r) counted whole front (rest, joins, outcome) =
    let all : count_by counted whole ≡ count_by counted front + count_by counted rest = ap (count_by counted) joins ∙ count-both counted front rest in
    ⊎_elim
    (λ none.
    let nothing : count_by counted rest ≡ 0 = ap (count_by counted) none in
    ap Some (omega (arith, all, nothing)))
    (λ enough. ap Some (omega (arith, all, enough)))
    outcome

-- enough items leave no need
pub enough-over : {C : Type 0} (needed needed_behind : Option ℕ) (counted : C → Bool) (items : List C) → needed_behind ≡ less_needed needed (count_by counted items)
    → IsEnough needed counted items → needed_behind ≡ Some 0
enough-over None needed_behind counted items is enough = absurd enough
enough-over (Some r) needed_behind counted items is enough = is ∙ ap Some (omega (arith, enough))

-- the source's
module _ {S C : Type 0} (fine : S → Type 0) (source : S) (items : List C) where
  pub front-source : (segment unread : List C) (rest : List S) (told : Option ℕ) (from to : ℕ) → HasReadFrom fine source items segment unread rest told from to
      → take to items ≡ take from items ++ segment
  front-source segment unread rest told from to reads =
      let at = reads.0 in
      let done = at.0 in
      let size : to ≡ length (done ++ segment) = let e = length-append done segment in let s = at.2 in let t = at.3 in omega (arith, e, s, t) in
      let longer : take to items ≡ done ++ segment =
      ap (λ n. take n items) size ∙ ap (take (length (done ++ segment))) (at.1 ∙ sym (append_assoc done segment unread)) ∙ take-append_seam (done ++ segment) unread in
      let shorter : take from items ≡ done =
      ap (λ n. take n items) (sym at.2) ∙ ap (take (length done)) at.1 ∙ take-append_seam done (segment ++ unread) in
      longer ∙ ap (λ l. l ++ segment) (sym shorter)

  pub read-source : (segment unread : List C) (rest : List S) (told : Option ℕ) (from to : ℕ) → HasReadFrom fine source items segment unread rest told from to
      → HasRead fine source items unread rest told to
  read-source segment unread rest told from to reads =
      let at = reads.0 in
      let e = length-append at.0 segment in
      let s = at.2 in
      let t = at.3 in
      ((at.0 ++ segment, at.1 ∙ sym (append_assoc at.0 segment unread), omega (arith, e, s, t)), reads.1)

-- .. of which the present segment is cut into leaves
pub leaves-read : {S C : Type 0} (fine : S → Type 0) (source : S) (items : S → List C) (leaves : List S) (unread : List C) (rest : List S) (told : Option ℕ) (from to : ℕ)
    → HasReadFrom fine source (items source) (flat_map items leaves) unread rest told from to
    → HasRead fine source (items source) unread rest told to × (take to (items source) ≡ take from (items source) ++ joined (map items leaves))
leaves-read fine source items leaves unread rest told from to reads = (
  read-source fine source (items source) (flat_map items leaves) unread rest told from to reads,
  front-source fine source (items source) (flat_map items leaves) unread rest told from to reads ∙ ap (λ l. take from (items source) ++ l) (sym (joined-leaves items (flat_map items leaves) leaves refl)),
)

-- through a stage
pub front-through : {A B : Type 0} (f : A → List B) (parts : List (List A)) (before now : List A) → now ≡ before ++ joined parts
    → flat_map f now ≡ flat_map f before ++ joined (map (flat_map f) parts)
front-through f parts before now is = ap (flat_map f) is ∙ flat_map-append f before (joined parts) ∙ ap (λ l. flat_map f before ++ l) (sym (joined-through f parts (joined parts) refl))

module _ {C : Type 0} (needed : Option ℕ) (counted : C → Bool) (value : List C → List C) where
  -- a barrier's run over one list more
  pub stands-carried : (needed_old needed_new : Option ℕ) (old new : List C → List C) (before segment kept : List C)
      → StandsBehind needed counted value needed_old old before → needed_new ≡ less_needed needed_old (count_by counted segment)
      → ((more : List C) → old (segment ++ more) ≡ kept ++ new more) → new [] ≡ []
      → StandsBehind needed counted value needed_new new (before ++ segment) × (value (before ++ segment) ≡ value before ++ kept)
  stands-carried needed_old needed_new old new before segment kept stands less goes_on nothing =
      let gives : value (before ++ segment) ≡ value before ++ kept =
      stands.1 segment ∙ ap (λ l. value before ++ old l) (sym (append-nil segment)) ∙ ap (λ l. value before ++ l) (goes_on [] ∙ ap (λ l. kept ++ l) nothing ∙ append-nil kept) in
      let fewer = less ∙ ap (λ n. less_needed n (count_by counted segment)) stands.0 ∙ less-both needed (count_by counted before) (count_by counted segment)
      ∙ ap (less_needed needed) (sym (count-both counted before segment)) in (
        (
          fewer,
          λ more. ap value (append_assoc before segment more) ∙ stands.1 (segment ++ more) ∙ ap (λ l. value before ++ l) (goes_on more)
              ∙ sym (append_assoc (value before) kept (new more)) ∙ ap (λ l. l ++ new more) (sym gives),
        ),
        gives,
      )

  -- .. or over none, where it lets all pass and needs no number
  pub stands-passed : (needed_behind : Option ℕ) (behind : List C → List C) (before segment : List C) → StandsBehind needed counted value needed_behind behind before
      → needed_behind ≡ None → ((l : List C) → behind l ≡ l)
      → StandsBehind needed counted value needed_behind behind (before ++ segment) × (value (before ++ segment) ≡ value before ++ segment)
  stands-passed needed_behind behind before segment stands none same =
      stands-carried needed_behind needed_behind behind behind before segment segment stands (none ∙ ap (λ n. less_needed n (count_by counted segment)) (sym none))
      (λ more. same (segment ++ more) ∙ ap (λ l. segment ++ l) (sym (same more))) (same [])

  pub stands-fresh : (needed_behind : Option ℕ) (behind : List C → List C) → needed_behind ≡ needed → ((l : List C) → behind l ≡ value l) → behind [] ≡ []
      → StandsBehind needed counted value needed_behind behind []
  stands-fresh needed_behind behind is same nothing =
      (is ∙ less-nothing needed, λ more. sym (same more) ∙ ap (λ l. l ++ behind more) (sym nothing ∙ same []))

  -- once the last run may begin
  pub read-barred : {T : Type 0} (reads read : Type 0) (content : T → C) (needed_behind : Option ℕ) (behind : List C → List C) (passes done : Bool) (before now : List C) (parts : List (List C)) (listed : Option (Listed T))
      → HoldsListed listed → (passes ≡ true → (l : List C) → behind l ≡ l) → is_ready passes done listed ≡ true
      → ReadsBarred reads read (StandsBehind needed counted value needed_behind behind) value before now content needed_behind passes listed
      → (done ≡ true → reads → read × (now ≡ before ++ joined parts))
      → read × StandsBehind needed counted value needed_behind behind now × (value now ≡ value before ++ joined (parts_of content parts listed))
  read-barred reads read content needed_behind behind passes done before now parts None held same is so_far law =
      let (lets, are_done) = ready-passes passes done is in
      let (all, more) = law are_done so_far.0 in
      let on = stands-passed needed_behind behind before (joined parts) so_far.1 (so_far.2 lets) (same lets) in
      let P : List C → Type 0 = λ l. StandsBehind needed counted value needed_behind behind l × (value l ≡ value before ++ joined parts) in
      let at = subst P (sym more) on in
      (all, at.0, at.1)
  read-barred reads read content needed_behind behind passes done before now parts (Some l) held same is so_far law =
      (so_far.0, so_far.1, so_far.2 ∙ ap (λ m. value before ++ m) (sym (joined-listed content l held)))

pub reads-unlisted : {T C : Type 0} (reads read : Type 0) (stands : List C → Type 0) (value : List C → List C) (before now : List C) (content : T → C) (needed_behind : Option ℕ) (passes : Bool) (listed : Option (Listed T))
    → is_listed listed ≡ false → ReadsBarred reads read stands value before now content needed_behind passes listed → reads × stands before
reads-unlisted reads read stands value before now content needed_behind passes None unrun so_far = (so_far.0, so_far.1)
reads-unlisted reads read stands value before now content needed_behind passes (Some l) unrun so_far = absurd (true≢false unrun)

-- a run that goes on has read fewer items than decide
pub reads-on : (decided : ℕ → Type 0) (n to : ℕ) → (decided n → ⊥) → to ≤ most_read n → ReadsLittle decided to
reads-on decided n to undecided few k from =
    ⊎_elim
    (λ past. omega (arith, past, few))
    (λ within. absurd (undecided (from n within)))
    (cases_lt n k)

-- where nothing bounds the first segment, nothing decides
pub reads-begun : (decided : ℕ → Type 0) (to : ℕ) (most : Option ℕ) → (most ≡ None → (n : ℕ) → decided n → ⊥) → (most ≢ None → to ≤ first_segment) → ReadsLittle decided to
reads-begun decided to None undecided few k from = absurd (undecided refl k (from k (omega arith)))
reads-begun decided to (Some most) undecided few k from = let short = few some≢none in omega (arith, short)
  where
    some≢none : Some most ≢ None
    some≢none e = cc
