-- Entries that are read one by one.
use Rattle.std.specs.Prelude.{◌≡◌, Bool, true, false, cond, ◌||◌, List, [], ◌∷◌, ◌++◌, All, Option, Some, None, IfSome, is_some, fold, map, refl}
use Rattle.std.specs.List.{list_any}
use Rattle.std.specs.Map.{lookup}
use Rattle.std.proofs.Common.{sym, ap, ap₂, ◌∙◌, subst, append_assoc}
use Rattle.std.proofs.lemmas.List.Folds.{list_any-append}
use Rattle.std.proofs.lemmas.List.Elements.{All-head, All-tail, All-cons, All-nil, All-map, All-filter, All-weaker}
use Rattle.spliterator.specs.Values.{DecidesEquality}
use Rattle.stages.specs.Tests.{either, apart-swap, or-false_left, or-false_right}
use Rattle.stages.specs.Distinct.{distinct, distinct_after, AllApart}
use Rattle.stages.specs.DistinctLaws.{distinct-apart}
use Rattle.serde_json.specs.Data.{Data}
use Rattle.collectors.specs.Laws.{IsContainerOf}
use Rattle.collectors.specs.Grouping.{group_add, of_key, pairs, contents}
use Rattle.collectors.specs.MapLaws.{as_groups, map_add, mapped}
use Rattle.collectors.specs.NestedLaws.{add_image, fold-image}
use Rattle.collectors.specs.Reductions.{reduce_add}
use Rattle.collectors.specs.GroupingResults.{grouped}
use Rattle.wire_form.specs.Forms.{entry_form}
use Rattle.wire_form.specs.FormLaws.{pair-first}
use Rattle.wire_form.specs.KnownEntries.{AreKnownEntries, IsKnownEntry}
use Rattle.wire_form.proofs.Known.{reduced-known}
use Rattle.wire_form.proofs.Members.{map-map}

some-or : {A : Type 0} (t : Bool) (v : A) (o : Option A) → is_some (cond t (Some v) o) ≡ (t || is_some o)
some-or true v o = refl
some-or false v o = refl

-- a key is found where its content is among the keys'
pub there : {K A J : Type 0} (eq : K → K → Bool) (same : J → J → Bool) (of : K → J) → ((x y : K) → eq x y ≡ same (of x) (of y))
    → (k : K) (es : List (K × A)) → is_some (lookup (eq k) es) ≡ list_any (same (of k)) (map (λ e. of e.0) es)
there eq same of agree k [] = refl
there eq same of agree k (e ∷ es) = some-or (eq k e.0) e.1 (lookup (eq k) es) ∙ ap₂ ◌||◌ (agree k e.0) (there eq same of agree k es)

module _ {K C J : Type 0} (of_keys : J → Data) (of_kept : C → Data) (of : K → J) (pinned : (a b : J) → of_keys a ≡ of_keys b → a ≡ b) where
  abbrev form : K × C → Data
  form g = entry_form (λ k. of_keys (of k)) of_kept g

  -- the forms tell the keys
  pub keys-told : (new old : List (K × C)) (e : J × C) → map form new ≡ map form old ++ entry_form of_keys of_kept e ∷ [] → map (λ g. of g.0) new ≡ map (λ g. of g.0) old ++ e.0 ∷ []
  keys-told [] [] e h = cc
  keys-told [] (o ∷ old) e h = cc
  keys-told (n ∷ []) [] e h =
      let first : form n ≡ entry_form of_keys of_kept e = cc in
      ap (λ k. k ∷ []) (pinned (of n.0) e.0 (pair-first first))
  keys-told (n ∷ m ∷ new) [] e h = cc
  keys-told (n ∷ new) (o ∷ old) e h =
      let first : form n ≡ form o = cc in
      let rest : map form new ≡ map form old ++ entry_form of_keys of_kept e ∷ [] = cc in
      ap₂ (λ k ks. k ∷ ks) (pinned (of n.0) (of o.0) (pair-first first)) (keys-told new old e rest)

module _ {J : Type 0} (same : J → J → Bool) (decides : DecidesEquality same) where
  -- a key is none of those before it
  pub apart-before : (before : List J) (k : J) (ks : List J) → AllApart same (before ++ k ∷ ks) → list_any (same k) before ≡ false
  apart-before [] k ks h = refl
  apart-before (j ∷ before) k ks h =
      let none : (list_any (same j) before || (same j k || list_any (same j) ks)) ≡ false = sym (list_any-append (same j) before (k ∷ ks)) ∙ h.0 in
      let here : same j k ≡ false = or-false_left (same j k) (list_any (same j) ks) (or-false_right (list_any (same j) before) (same j k || list_any (same j) ks) none) in
      ap₂ ◌||◌ (apart-swap same decides j k here) (apart-before before k ks h.1)

  pub distinct-known : (P : J → Type 0) (earlier ks : List J) → All P ks → All P (distinct_after same earlier ks)
  distinct-known P earlier [] v = v
  distinct-known P earlier (k ∷ ks) v =
      let rest = distinct-known P (earlier ++ k ∷ []) ks (All-tail P k ks v) in
      either (list_any (same k) earlier)
      (λ t. simp t rest)
      (λ t. simp t (All-cons P k (distinct_after same (earlier ++ k ∷ []) ks) (All-head P k ks v) rest))

  module _ {C : Type 0} (is_key : J → Type 0) (is_kept : C → Type 0) where
    -- one entry less is left
    pub known-more : (before : List J) (e : J × C) (es : List (J × C)) → AreKnownEntries is_key is_kept same before (e ∷ es)
        → AreKnownEntries is_key is_kept same (before ++ e.0 ∷ []) es
    known-more before e es h = (
      subst (AllApart same) (sym (append_assoc before (e.0 ∷ []) (map (λ e. e.0) es))) h.0,
      All-tail (IsKnownEntry is_key is_kept) e es h.1,
    )

    module _ {K A : Type 0} (of : K → J) (content : C → A) where
      abbrev seen : List (K × C) → List (J × C)
      seen es = map (λ g. (of g.0, g.1)) es

      keys-of : (value : J → A) (ks : List J) (es : List (K × C)) → contents of content es ≡ pairs value ks → map (λ e. e.0) (seen es) ≡ ks
      keys-of value [] [] h = refl
      keys-of value [] (e ∷ es) h = cc
      keys-of value (k ∷ ks) [] h = cc
      keys-of value (k ∷ ks) (e ∷ es) h =
          let head : ◌≡◌ {A = J × A} (of e.0, content e.1) (k, value k) = cc in
          let rest : contents of content es ≡ pairs value ks = cc in
          ap₂ (λ j js. j ∷ js) (ap (λ p. p.0) head) (keys-of value ks es rest)

      known-each : (value : J → A) → ((k : J) (c : C) → content c ≡ value k → is_kept c) → (ks : List J) (es : List (K × C))
          → contents of content es ≡ pairs value ks → All is_key ks → All (IsKnownEntry is_key is_kept) (seen es)
      known-each value kept [] [] h v = All-nil (IsKnownEntry is_key is_kept)
      known-each value kept [] (e ∷ es) h v = cc
      known-each value kept (k ∷ ks) [] h v = cc
      known-each value kept (k ∷ ks) (e ∷ es) h v =
          let head : ◌≡◌ {A = J × A} (of e.0, content e.1) (k, value k) = cc in
          let rest : contents of content es ≡ pairs value ks = cc in
          All-cons (IsKnownEntry is_key is_kept) (of e.0, e.1) (seen es)
          (subst is_key (sym (ap (λ p. p.0) head)) (All-head is_key k ks v), kept k e.1 (ap (λ p. p.1) head))
          (known-each value kept ks es rest (All-tail is_key k ks v))

      -- entries by the distinct keys of a list of values are known
      known-pairs : {X : Type 0} (is_value : X → Type 0) (key : X → J) → ((x : X) → is_value x → is_key (key x)) → (value : J → A) → ((k : J) (c : C) → content c ≡ value k → is_kept c)
          → (es : List (K × C)) (l : List X) → All is_value l → contents of content es ≡ pairs value (distinct same (map key l)) → AreKnownEntries is_key is_kept same [] (seen es)
      known-pairs is_value key keys value kept es l v h =
          let all : All is_key (map key l) = All-map is_key key l (All-weaker is_value (λ x. is_key (key x)) keys l v) in (
            subst (AllApart same) (sym (keys-of value (distinct same (map key l)) es h)) (distinct-apart same decides (map key l)),
            known-each value kept (distinct same (map key l)) es h (distinct-known is_key [] (map key l) all),
          )

  -- the groups of a list of values are known
  pub known-groups : {K X A C : Type 0} (is_key : J → Type 0) (of : K → J) (content : C → A) (empty : A) (add : A → X → A) (is_value : X → Type 0) (key : X → J) → ((x : X) → is_value x → is_key (key x))
      → (es : List (K × C)) (l : List X) → All is_value l → contents of content es ≡ fold (group_add same key empty add) [] l
      → AreKnownEntries is_key (λ c. (s : List X) × IsContainerOf is_value content empty add s c) same [] (map (λ g. (of g.0, g.1)) es)
  known-groups {X = X} {C = C} is_key of content empty add is_value key keys es l v h =
      known-pairs is_key (λ c. (s : List X) × IsContainerOf is_value content empty add s c) of content is_value key keys
      (λ k. fold add empty (of_key same key l k)) (λ k c made. (of_key same key l k, (All-filter (λ x. same k (key x)) is_value l v, made))) es l v
      (h ∙ grouped same decides key empty add l)

  -- the entries of a map of values are known
  pub known-map : {K X C U : Type 0} (is_key : J → Type 0) (is_result : C → Type 0) (of : K → J) (content : U → C) (value : X → C) (join : C → C → C) (is_value : X → Type 0) (key : X → J)
      → ((x : X) → is_value x → is_key (key x)) → ((x : X) → is_value x → is_result (value x)) → ((x y : C) → is_result x → is_result y → is_result (join x y))
      → (es : List (K × U)) (l : List X) → All is_value l → contents of content es ≡ fold (map_add same key value join) [] l
      → AreKnownEntries is_key (λ u. is_result (content u)) same [] (map (λ g. (of g.0, g.1)) es)
  known-map is_key is_result of content value join is_value key keys values joins es l v h =
      let reduce = λ (k : J). fold (add_image value None (reduce_add join)) None (of_key same key l k) in
      known-pairs is_key (λ u. is_result (content u)) of (λ u. Some (content u)) is_value key keys reduce
      (λ k u made.
      let part = of_key same key l k in
      let all = All-map is_result value part (All-weaker is_value (λ x. is_result (value x)) values part (All-filter (λ x. same k (key x)) is_value l v)) in
      subst (λ o. IfSome o is_result) (sym (made ∙ fold-image value None (reduce_add join) part)) (reduced-known join is_result joins (map value part) all))
      es l v (sym (map-map (λ e. (e.0, Some e.1)) (λ e. (of e.0, content e.1)) es) ∙ ap as_groups h ∙ mapped same decides key value join l)

-- the first of some that are left
pub first-left : {E : Type 0} (told : E → Data) (left : List E) (d : Data) (ds : List Data) → map told left ≡ d ∷ ds → (e : E) × (more : List E) × (left ≡ e ∷ more) × (told e ≡ d) × (map told more ≡ ds)
first-left told [] d ds h = absurd (none h)
  where
    none : [] ≡ d ∷ ds → ⊥
    none h = cc
first-left told (e ∷ more) d ds h =
    let first : told e ≡ d = cc in
    let rest : map told more ≡ ds = cc in
    (e, more, refl, first, rest)

pub map-none : {X Y : Type 0} (f : X → Y) (l : List X) → map f l ≡ [] → l ≡ []
map-none f [] h = refl
map-none f (x ∷ l) h = cc
