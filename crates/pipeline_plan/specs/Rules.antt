-- When stages are simpler than others.
use Rattle.pipeline_meaning.specs.Stages.{Meaning, StageOf, part_list, part-map, stages_list, stage_list}
use Rattle.pipeline_language.specs.declared.grammar.Barrier.TheVariants.{Counted, Distinct, While}
use Rattle.pipeline_language.specs.declared.{grammar.Part.Part, item_count.ItemCount.ItemCount}
use Rattle.pipeline_language.specs.declared.grammar.Part.TheVariants.{Front, Rest}
use Rattle.pipeline_language.specs.declared.grammar.Stage.TheVariants.{FlatMap, Barrier, Map, Filter}
use Rattle.pipeline_plan.specs.declared.neighbours.Instead.{Instead}
use Rattle.pipeline_plan.specs.declared.neighbours.Instead.TheVariants.{Both, One}
use Rattle.std.specs.List.{list_any, prefix_len, AllPairs, slice_index_or}
use Rattle.std.proofs.Common.{ap, ap₂, sym, ◌∙◌, arith, true≢false, append_assoc, append-nil, subst, ◌≡◌, ◌<◌, ◌+◌, ℕ, List, [], ◌∷◌, ◌++◌, ◌≤◌, ◌*◌, ◌||◌, zero, suc, Bool, true, false, cond, flat_map, take, drop, refl, ◌≢◌, length, remove}
use Rattle.std.proofs.{Math.ListN.replicate, lemmas.List.Folds.list_any-append}
use Rattle.std.proofs.lemmas.List.{drop_all, drop-drop, take-append-drop, take_more}
use Rattle.barriers.specs.Rewrites.{distinct-stays}
use Rattle.spliterator.specs.Values.{DecidesEquality}
use Rattle.stages.specs.Distinct.{distinct, distinct_after}
use Rattle.stages.specs.Tests.{either, same-itself}
use Rattle.pipeline_meaning.proofs.NumberFronts.{copies-map, copies-filter}

-- Limits and skips are to come first, and copies to be made last.
abbrev pub weight : {F P E : Type 0} → StageOf F P E → ℕ
weight (FlatMap e) = 1
weight (Barrier (Counted part n)) = 3
weight stage = 2

-- More stages weigh more, and so do the same ones with a heavy one further back.
abbrev pub work : {F P E : Type 0} → List (StageOf F P E) → ℕ
work [] = 0
work (stage ∷ stages) = work stages + work stages + weight stage

-- Stages that make the same of every list, and weigh less, whatever stands behind them.
pub record Betters {F P E X : Type 0} (m : Meaning F P E X) (new old : List (StageOf F P E)) : Type 0 where
  pub same : (l : List X) → stages_list m new l ≡ stages_list m old l
  pub less : (rest : List (StageOf F P E)) → work (new ++ rest) < work (old ++ rest)

abbrev pub instead_list : {G : Type 0} → Instead G → List G
instead_list (Both first second) = first ∷ second ∷ []
instead_list (One stage) = stage ∷ []

-- what stands in the place of two neighbours betters them
abbrev pub IsBetter : {F P E X : Type 0} → Meaning F P E X → StageOf F P E → StageOf F P E → Instead (StageOf F P E) → Type 0
IsBetter m first second new = Betters m (instead_list new) (first ∷ second ∷ [])

-- Copies of each member of a list, and what moves past them.

-- ---- one member's copies

take-past : {X : Type 0} (k n : ℕ) (x : X) (l : List X) → take (k + n) (replicate k x ++ l) ≡ replicate k x ++ take n l
take-past zero n x l = let e : zero + n ≡ n = omega arith in ap (λ i. take i l) e
take-past (suc k) n x l = let e : suc k + n ≡ suc (k + n) = omega arith in ap (λ i. take i (x ∷ replicate k x ++ l)) e ∙ ap (λ l. x ∷ l) (take-past k n x l)

drop-past : {X : Type 0} (k n : ℕ) (x : X) (l : List X) → drop (k + n) (replicate k x ++ l) ≡ drop n l
drop-past zero n x l = let e : zero + n ≡ n = omega arith in ap (λ i. drop i l) e
drop-past (suc k) n x l = let e : suc k + n ≡ suc (k + n) = omega arith in ap (λ i. drop i (x ∷ replicate k x ++ l)) e ∙ drop-past k n x l

prefix-past : {X : Type 0} (p : X → Bool) (k : ℕ) (x : X) (l : List X) → p x ≡ true → prefix_len p (replicate k x ++ l) ≡ k + prefix_len p l
prefix-past p zero x l is = omega arith
prefix-past p (suc k) x l is = ap (λ b. cond b (1 + prefix_len p (replicate k x ++ l)) 0) is ∙ (let e = prefix-past p k x l is in omega arith)

-- ---- what moves past the copies of all

times-next : (k n : ℕ) → k * suc n ≡ k + k * n
times-next k n = omega arith

copies-take : {X : Type 0} (k n : ℕ) (l : List X) → take (k * n) (flat_map (replicate k) l) ≡ flat_map (replicate k) (take n l)
copies-take k zero l = let e : k * zero ≡ 0 = omega arith in ap (λ i. take i (flat_map (replicate k) l)) e
copies-take k (suc n) [] = none (k * suc n)
  where
    none : {X : Type 0} (i : ℕ) → take i (flat_map (replicate {A = X} k) []) ≡ []
    none zero = refl
    none (suc i) = refl
copies-take k (suc n) (x ∷ l) = ap (λ i. take i (replicate k x ++ flat_map (replicate k) l)) (times-next k n) ∙ take-past k (k * n) x (flat_map (replicate k) l) ∙ ap (λ r. replicate k x ++ r) (copies-take k n l)

copies-drop : {X : Type 0} (k n : ℕ) (l : List X) → drop (k * n) (flat_map (replicate k) l) ≡ flat_map (replicate k) (drop n l)
copies-drop k zero l = let e : k * zero ≡ 0 = omega arith in ap (λ i. drop i (flat_map (replicate k) l)) e
copies-drop k (suc n) [] = drop_all (k * suc n) [] (omega arith)
copies-drop k (suc n) (x ∷ l) = ap (λ i. drop i (replicate k x ++ flat_map (replicate k) l)) (times-next k n) ∙ drop-past k (k * n) x (flat_map (replicate k) l) ∙ copies-drop k n l

copies-part : {X : Type 0} (part : Part) (k n : ℕ) (l : List X) → part_list part (k * n) (flat_map (replicate k) l) ≡ flat_map (replicate k) (part_list part n l)
copies-part Front k n l = copies-take k n l
copies-part Rest k n l = copies-drop k n l

copies-prefix : {X : Type 0} (p : X → Bool) (k : ℕ) (l : List X) → prefix_len p (flat_map (replicate k) l) ≡ k * prefix_len p l
copies-prefix p k [] = omega arith
copies-prefix p k (x ∷ l) = first k (p x) refl (λ i. copies-prefix p i l)
  where
    first : (k : ℕ) (b : Bool) → p x ≡ b → ((i : ℕ) → prefix_len p (flat_map (replicate i) l) ≡ i * prefix_len p l) → prefix_len p (replicate k x ++ flat_map (replicate k) l) ≡ k * cond b (1 + prefix_len p l) 0
    first k true is rest =
        prefix-past p k x (flat_map (replicate k) l) is ∙ ap (λ i. k + i) (rest k) ∙ sym (times-next k (prefix_len p l))
        ∙ (let e : suc (prefix_len p l) ≡ 1 + prefix_len p l = omega arith in ap (λ i. k * i) e)
    first zero false is rest = rest zero ∙ (let e : zero * prefix_len p l ≡ zero * 0 = omega arith in e)
    first (suc k) false is rest = ap (λ b. cond b (1 + prefix_len p (replicate k x ++ flat_map (replicate (suc k)) l)) 0) is ∙ (let e : 0 ≡ suc k * 0 = omega arith in e)

-- ---- distinct members of copies

module _ {X : Type 0} (same : X → X → Bool) (decides : DecidesEquality same) where
  abbrev among : X → List X → Bool
  among x l = list_any (same x) l

  -- what came earlier matters by its members alone
  by-members : (a b l : List X) → ((x : X) → among x a ≡ among x b) → distinct_after same a l ≡ distinct_after same b l
  by-members a b [] alike = refl
  by-members a b (x ∷ l) alike =
      let next : (y : X) → among y (a ++ x ∷ []) ≡ among y (b ++ x ∷ []) =
      λ y. list_any-append (same y) a (x ∷ []) ∙ ap (λ t. t || among y (x ∷ [])) (alike y) ∙ sym (list_any-append (same y) b (x ∷ [])) in
      ap₂ (λ t rest. cond t rest (x ∷ rest)) (alike x) (by-members (a ++ x ∷ []) (b ++ x ∷ []) l next)

  -- one that is there, once more
  once-more : (a : List X) (x y : X) → among x a ≡ true → among y (a ++ x ∷ []) ≡ among y a
  once-more a x y there = list_any-append (same y) a (x ∷ []) ∙ either (same y x)
      (λ h. let here : among y a ≡ true = ap (λ z. among z a) ((decides y x).0 h) ∙ there in grind (arith, here, h))
      (λ h. grind (arith, h))

  -- copies of what came earlier add nothing
  copies-earlier : (a l : List X) (k : ℕ) (x : X) → among x a ≡ true → distinct_after same a (replicate k x ++ l) ≡ distinct_after same a l
  copies-earlier a l zero x there = refl
  copies-earlier a l (suc k) x there =
      ap (λ t. cond t (distinct_after same (a ++ x ∷ []) (replicate k x ++ l)) (x ∷ distinct_after same (a ++ x ∷ []) (replicate k x ++ l))) there
      ∙ by-members (a ++ x ∷ []) a (replicate k x ++ l) (λ y. once-more a x y there) ∙ copies-earlier a l k x there

  now-there : (a : List X) (x : X) → among x (a ++ x ∷ []) ≡ true
  now-there a x = list_any-append (same x) a (x ∷ []) ∙ (let h = same-itself same decides x in last (among x a) h)
    where
      last : (t : Bool) → same x x ≡ true → (t || (same x x || false)) ≡ true
      last true h = refl
      last false h = ap (λ b. b || false) h

  distinct_after-copies : (a : List X) (k : ℕ) (l : List X) → distinct_after same a (flat_map (replicate (suc k)) l) ≡ distinct_after same a l
  distinct_after-copies a k [] = refl
  distinct_after-copies a k (x ∷ l) =
      let more = a ++ x ∷ [] in
      let rest : distinct_after same more (replicate k x ++ flat_map (replicate (suc k)) l) ≡ distinct_after same more l =
      copies-earlier more (flat_map (replicate (suc k)) l) k x (now-there a x) ∙ distinct_after-copies more k l in
      ap (λ r. cond (among x a) r (x ∷ r)) rest

  pub distinct-copies : (k : ℕ) (l : List X) → 1 ≤ k → distinct same (flat_map (replicate k) l) ≡ distinct same l
  distinct-copies zero l some = absurd (omega arith)
  distinct-copies (suc k) l some = distinct_after-copies [] k l

-- Neighbours that are put more simply.

abbrev pub passes_copies : {F P E : Type 0} → StageOf F P E → Bool
passes_copies (Map f) = true
passes_copies (Filter p) = true
passes_copies (Barrier (While part p)) = true
passes_copies _ = false

abbrev pub is_distinct : {F P E : Type 0} → StageOf F P E → Bool
is_distinct (Barrier Distinct) = true
is_distinct _ = false

-- a limit or a skip of whole copies, and of the items that they are copies of
abbrev pub IsSectionOver : {F P E : Type 0} → ℕ → StageOf F P E → StageOf F P E → Type 0
IsSectionOver k (Barrier (Counted part n)) (Barrier (Counted other i)) = (part ≡ other) × (n.number ≡ k * i.number)
IsSectionOver k _ _ = ⊥

-- a stage that makes so many copies of each item
pub record Repeats {F P E X : Type 0} (m : Meaning F P E X) (stage : StageOf F P E) (k : ℕ) : Type 0 where
  pub copies : (l : List X) → stage_list m stage l ≡ flat_map (replicate k) l
  pub light : weight stage ≡ 1

module _ {F P E X : Type 0} (m : Meaning F P E X) where
  pub section_first : (f : F) (part : Part) (n : ItemCount) → Betters m (Barrier (Counted part n) ∷ Map f ∷ []) (Map f ∷ Barrier (Counted part n) ∷ [])
  section_first f part n = record { same = λ l. sym (part-map (m.image f) part n.number l); less = λ rest. omega arith }

  pub weighs : (s : StageOf F P E) → 1 ≤ weight s
  weighs (FlatMap e) = omega arith
  weighs (Barrier (Counted part n)) = omega arith
  weighs _ = omega arith

  -- nothing is made of copies of no number
  pub none_made : (s : StageOf F P E) (k : ℕ) → Repeats m s k → k ≡ 0 → (l : List X) → stage_list m s l ≡ []
  none_made s k repeats none l = repeats.copies l ∙ ap (λ i. flat_map (replicate i) l) none ∙ no-copies l
    where
      no-copies : (l : List X) → flat_map (replicate 0) l ≡ []
      no-copies [] = refl
      no-copies (x ∷ l) = no-copies l

  pub nothing_first : (first second : StageOf F P E) → ((l : List X) → stage_list m second l ≡ []) → Betters m (second ∷ []) (first ∷ second ∷ [])
  nothing_first first second none =
      let some = weighs first in record { same = λ l. none l ∙ sym (none (stage_list m first l)); less = λ rest. omega (arith, some) }

  passing : (s : StageOf F P E) (k : ℕ) (l : List X) → passes_copies s ≡ true → stage_list m s (flat_map (replicate k) l) ≡ flat_map (replicate k) (stage_list m s l)
  passing (Map f) k l is = copies-map (m.image f) k l
  passing (Filter p) k l is = copies-filter (m.holds p) k l
  passing (Barrier (While part p)) k l is =
      ap (λ i. part_list part i (flat_map (replicate k) l)) (copies-prefix (m.holds p) k l) ∙ copies-part part k (prefix_len (m.holds p) l) l
  passing _ k l is = absurd (true≢false (sym is))

  passing-weighs : (s : StageOf F P E) → passes_copies s ≡ true → weight s ≡ 2
  passing-weighs (Map f) is = refl
  passing-weighs (Filter p) is = refl
  passing-weighs (Barrier (While part p)) is = refl
  passing-weighs _ is = absurd (true≢false (sym is))

  pub copies_last : (first second : StageOf F P E) (k : ℕ) → Repeats m first k → passes_copies second ≡ true → Betters m (second ∷ first ∷ []) (first ∷ second ∷ [])
  copies_last first second k repeats is =
      let heavy = passing-weighs second is in
      let light = repeats.light in record {
        same = λ l. repeats.copies (stage_list m second l) ∙ sym (passing second k l is) ∙ ap (stage_list m second) (sym (repeats.copies l));
        less = λ rest. omega (arith, heavy, light);
      }

  pub copies_dropped : (first second : StageOf F P E) (k : ℕ) → Repeats m first k → 1 ≤ k → is_distinct second ≡ true → Betters m (second ∷ []) (first ∷ second ∷ [])
  copies_dropped first (Barrier Distinct) k repeats some is =
      let light = repeats.light in record {
        same = λ l. sym (ap (stage_list m (Barrier Distinct)) (repeats.copies l) ∙ distinct-copies m.same m.decides k l some);
        less = λ rest. omega (arith, light);
      }
  copies_dropped first _ k repeats some is = absurd (true≢false (sym is))

  pub section_before_copies : (first second part : StageOf F P E) (k : ℕ) → Repeats m first k → IsSectionOver k second part → Betters m (part ∷ first ∷ []) (first ∷ second ∷ [])
  section_before_copies first (Barrier (Counted part n)) (Barrier (Counted other i)) k repeats is =
      let light = repeats.light in record {
        same = λ l.
            repeats.copies (part_list other i.number l) ∙ sym (copies-part other k i.number l)
            ∙ ap₂ (λ p j. part_list p j (flat_map (replicate k) l)) (sym is.0) (sym is.1) ∙ ap (part_list part n.number) (sym (repeats.copies l));
        less = λ rest. omega (arith, light);
      }
  section_before_copies first _ _ k repeats is = absurd is

-- Stages within stages.

module _ {F P E X : Type 0} (m : Meaning F P E X) where
  pub stages-append : (a b : List (StageOf F P E)) (l : List X) → stages_list m (a ++ b) l ≡ stages_list m b (stages_list m a l)
  stages-append [] b l = refl
  stages-append (s ∷ a) b l = stages-append a b (stage_list m s l)

  work-front : (a c d : List (StageOf F P E)) → work c < work d → work (a ++ c) < work (a ++ d)
  work-front [] c d h = h
  work-front (s ∷ a) c d h = let more = work-front a c d h in omega (arith, more)

  -- What betters some stages betters them between any others.
  pub between : (a b new old : List (StageOf F P E)) → Betters m new old → Betters m (a ++ (new ++ b)) (a ++ (old ++ b))
  between a b new old better = record {
    same = λ l.
        stages-append a (new ++ b) l ∙ stages-append new b (stages_list m a l) ∙ ap (stages_list m b) (better.same (stages_list m a l))
        ∙ sym (stages-append a (old ++ b) l ∙ stages-append old b (stages_list m a l));
    less = λ rest. simp append_assoc (work-front a (new ++ (b ++ rest)) (old ++ (b ++ rest)) (better.less (b ++ rest)));
  }

  -- two neighbours and what stands around them
  parted : (stages : List (StageOf F P E)) (at : ℕ) → take at stages ++ (take 2 (drop at stages) ++ drop (at + 2) stages) ≡ stages
  parted stages at =
      ap (λ s. take at stages ++ (take 2 (drop at stages) ++ s)) (sym (drop-drop 2 at stages))
      ∙ ap (λ s. take at stages ++ s) (take-append-drop 2 (drop at stages)) ∙ take-append-drop at stages

  pub in-place : (stages new : List (StageOf F P E)) (at : ℕ) → Betters m new (take 2 (drop at stages)) → Betters m (take at stages ++ (new ++ drop (at + 2) stages)) stages
  in-place stages new at better =
      subst (Betters m (take at stages ++ (new ++ drop (at + 2) stages))) (parted stages at) (between (take at stages) (drop (at + 2) stages) new (take 2 (drop at stages)) better)

  pub lighter : (new old : List (StageOf F P E)) → Betters m new old → work new < work old
  lighter new old better =
      let one = ap work (append-nil new) in
      let other = ap work (append-nil old) in
      let less = better.less [] in omega (arith, one, other, less)

  pub remove-less : (stages : List (StageOf F P E)) (at : ℕ) → at < length stages → work (remove stages at) < work stages
  remove-less [] at within = absurd (omega arith)
  remove-less (s ∷ stages) zero within = let some = weighs m s in omega (arith, some)
  remove-less (s ∷ stages) (suc at) within = let less = remove-less stages at (omega arith) in omega (arith, less)

  -- a stage more
  pub stage-more : (stages : List (StageOf F P E)) (at : ℕ) (d : StageOf F P E) (l : List X) → at < length stages
      → stages_list m (take (at + 1) stages) l ≡ stage_list m (slice_index_or stages at d) (stages_list m (take at stages) l)
  stage-more stages at d l within = ap (λ s. stages_list m s l) (take_more stages at d within) ∙ stages-append (take at stages) (slice_index_or stages at d ∷ []) l

  -- a distinct to which only items that differ come
  pub distinct-unneeded : (stages : List (StageOf F P E)) (at : ℕ) (d : StageOf F P E) (l : List X) → at < length stages → is_distinct (slice_index_or stages at d) ≡ true
      → AllPairs (λ c d. c ≢ d) (stages_list m (take at stages) l) → stages_list m (remove stages at) l ≡ stages_list m stages l
  distinct-unneeded [] at d l within is apart = absurd (omega arith)
  distinct-unneeded (Barrier Distinct ∷ stages) zero d l within is apart = ap (stages_list m stages) (sym (distinct-stays m.same m.decides l apart))
  distinct-unneeded (_ ∷ stages) zero d l within is apart = absurd (true≢false (sym is))
  distinct-unneeded (s ∷ stages) (suc at) d l within is apart = distinct-unneeded stages at d (stage_list m s l) (omega arith) is apart
