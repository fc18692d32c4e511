-- Forms tell what was written, don't nest deeper than their parts, and have no float.
use Rattle.std.specs.Prelude.{◌≡◌, ◌≤◌, ◌+◌, ◌||◌, Bool, false, ℕ, ℤ, pos, negsuc, max, List, [], ◌∷◌, Option, Some, None, option_map, map, refl}
use Rattle.std.proofs.Common.{sym, ◌∙◌, ap, ap₂, arith, zero-le}
use Rattle.serde_json.specs.Data.{Data, number, string, array, Items, depth, items_depth}
use Rattle.serde_json.specs.Find.{of_integer}
use Rattle.serde_json.specs.View.{items_of}
use Rattle.serde_json.specs.Written.{has_float, items_have_float}
use Rattle.derived_collectors.specs.Facts.{Facts}
use Rattle.derived_collectors.specs.Sets.{as_keys}
use Rattle.wire_form.specs.Forms.{entry_form, facts_form, list_form, number_form, option_form, pair_form, text_form}

-- numbers of one form are one
pub number_form-pinned : (a b : ℤ) → number (of_integer a) ≡ number (of_integer b) → a ≡ b
number_form-pinned (pos m) (pos n) h = cc
number_form-pinned (pos m) (negsuc n) h = cc
number_form-pinned (negsuc m) (pos n) h = cc
number_form-pinned (negsuc m) (negsuc n) h = cc

-- texts of one form are one
pub string-pinned : (a b : List ℕ) → string a ≡ string b → a ≡ b
string-pinned a b h = cc

pub text_form-pinned : (a b : Option (List ℕ)) → text_form a ≡ text_form b → a ≡ b
text_form-pinned None None h = refl
text_form-pinned None (Some b) h = cc
text_form-pinned (Some a) None h = cc
text_form-pinned (Some a) (Some b) h = cc

array-same : {a b : Items} → array a ≡ array b → a ≡ b
array-same h = cc

pub pair-first : {a b c d : Data} → pair_form a b ≡ pair_form c d → a ≡ c
pair-first h = cc

pub pair-second : {a b c d : Data} → pair_form a b ≡ pair_form c d → b ≡ d
pair-second h = cc

-- what is seen of members is told by their forms, and so of lists, options and entries
module _ {X Y : Type 0} (form : X → Data) (seen : X → Y) (pinned : (x y : X) → form x ≡ form y → seen x ≡ seen y) where
  items-pinned : (xs ys : List X) → items_of (map form xs) ≡ items_of (map form ys) → map seen xs ≡ map seen ys
  items-pinned [] [] h = refl
  items-pinned [] (y ∷ ys) h = cc
  items-pinned (x ∷ xs) [] h = cc
  items-pinned (x ∷ xs) (y ∷ ys) h =
      let first : form x ≡ form y = cc in
      let rest : items_of (map form xs) ≡ items_of (map form ys) = cc in
      ap₂ (λ a l. a ∷ l) (pinned x y first) (items-pinned xs ys rest)

  pub list_form-pinned : (xs ys : List X) → list_form form xs ≡ list_form form ys → map seen xs ≡ map seen ys
  list_form-pinned xs ys h = items-pinned xs ys (array-same h)

  pub option_form-pinned : (a b : Option X) → option_form form a ≡ option_form form b → option_map seen a ≡ option_map seen b
  option_form-pinned None None h = refl
  option_form-pinned None (Some y) h = cc
  option_form-pinned (Some x) None h = cc
  option_form-pinned (Some x) (Some y) h =
      let first : form x ≡ form y = cc in
      ap Some (pinned x y first)

module _ {K A J B : Type 0} (of_keys : K → Data) (of_kept : A → Data) (seen_keys : K → J) (seen_kept : A → B)
    (keys : (j k : K) → of_keys j ≡ of_keys k → seen_keys j ≡ seen_keys k) (kept : (a b : A) → of_kept a ≡ of_kept b → seen_kept a ≡ seen_kept b) where
  pub entry_form-pinned : (e f : K × A) → entry_form of_keys of_kept e ≡ entry_form of_keys of_kept f → ◌≡◌ {A = J × B} (seen_keys e.0, seen_kept e.1) (seen_keys f.0, seen_kept f.1)
  entry_form-pinned e f h = ap₂ (λ j b. (j, b)) (keys e.0 f.0 (pair-first h)) (kept e.1 f.1 (pair-second h))

-- how deep the forms nest
module _ {X : Type 0} (form : X → Data) (n : ℕ) (shallow : (x : X) → depth (form x) ≤ n) where
  items-shallow : (xs : List X) → items_depth (items_of (map form xs)) ≤ n
  items-shallow [] = zero-le
  items-shallow (x ∷ xs) = omega (arith, shallow x, items-shallow xs)

  pub list_form-shallow : (xs : List X) → depth (list_form form xs) ≤ n + 1
  list_form-shallow xs = omega (arith, items-shallow xs)

  pub option_form-shallow : (a : Option X) → depth (option_form form a) ≤ n + 1
  option_form-shallow None = zero-le
  option_form-shallow (Some x) = omega (arith, shallow x)

pub pair_form-shallow : (a b : Data) (m n : ℕ) → depth a ≤ m → depth b ≤ n → depth (pair_form a b) ≤ max m n + 1
pair_form-shallow a b m n h k = omega (arith, h, k)

pub sides-shallow : {X : Type 0} (form : X → Data) (n : ℕ) → ((x : X) → depth (form x) ≤ n) → (a b : X) → depth (pair_form (form a) (form b)) ≤ n + 1
sides-shallow form n shallow a b = omega (arith, shallow a, shallow b)

pub text_form-shallow : (a : Option (List ℕ)) → depth (text_form a) ≤ 0
text_form-shallow None = zero-le
text_form-shallow (Some t) = zero-le

pub entries-shallow : {K A : Type 0} (of_keys : K → Data) (of_kept : A → Data) (m n : ℕ) → ((k : K) → depth (of_keys k) ≤ m) → ((a : A) → depth (of_kept a) ≤ n)
    → (es : List (K × A)) → depth (list_form (entry_form of_keys of_kept) es) ≤ max m n + 2
entries-shallow of_keys of_kept m n keys kept es =
    let one = list_form-shallow (entry_form of_keys of_kept) (max m n + 1) (λ e. pair_form-shallow (of_keys e.0) (of_kept e.1) m n (keys e.0) (kept e.1)) es in
    omega (arith, one)

-- no number in the forms is a float
pub number_form-plain : (z : ℤ) → has_float (number (of_integer z)) ≡ false
number_form-plain (pos n) = refl
number_form-plain (negsuc n) = refl

neither : (s t : Bool) → s ≡ false → t ≡ false → (s || t) ≡ false
neither s t h k = ap₂ ◌||◌ h k

module _ {X : Type 0} (form : X → Data) (plain : (x : X) → has_float (form x) ≡ false) where
  items-plain : (xs : List X) → items_have_float (items_of (map form xs)) ≡ false
  items-plain [] = refl
  items-plain (x ∷ xs) = neither (has_float (form x)) (items_have_float (items_of (map form xs))) (plain x) (items-plain xs)

  pub list_form-plain : (xs : List X) → has_float (list_form form xs) ≡ false
  list_form-plain xs = items-plain xs

  pub option_form-plain : (a : Option X) → has_float (option_form form a) ≡ false
  option_form-plain None = refl
  option_form-plain (Some x) = neither (has_float (form x)) false (plain x) refl

pub pair_form-plain : (a b : Data) → has_float a ≡ false → has_float b ≡ false → has_float (pair_form a b) ≡ false
pair_form-plain a b h k = neither (has_float a) (has_float b || false) h (neither (has_float b) false k refl)

pub text_form-plain : (a : Option (List ℕ)) → has_float (text_form a) ≡ false
text_form-plain None = refl
text_form-plain (Some t) = refl

pub entries-plain : {K A : Type 0} (of_keys : K → Data) (of_kept : A → Data) → ((k : K) → has_float (of_keys k) ≡ false) → ((a : A) → has_float (of_kept a) ≡ false)
    → (es : List (K × A)) → has_float (list_form (entry_form of_keys of_kept) es) ≡ false
entries-plain of_keys of_kept keys kept es = list_form-plain (entry_form of_keys of_kept) (λ e. pair_form-plain (of_keys e.0) (of_kept e.1) (keys e.0) (kept e.1)) es

map-same : {X : Type 0} (l : List X) → map (λ x. x) l ≡ l
map-same [] = refl
map-same (x ∷ l) = ap (λ m. x ∷ m) (map-same l)

pub map-itself : {X : Type 0} {l r : List X} → map (λ x. x) l ≡ map (λ x. x) r → l ≡ r
map-itself {l = l} {r = r} h = sym (map-same l) ∙ h ∙ map-same r

-- summaries
bound-pinned : (a b : Option ℤ) → option_form number_form a ≡ option_form number_form b → a ≡ b
bound-pinned None None h = refl
bound-pinned None (Some y) h = cc
bound-pinned (Some x) None h = cc
bound-pinned (Some x) (Some y) h =
    let first : number_form x ≡ number_form y = cc in
    ap Some (number_form-pinned x y first)

pub facts_form-pinned : (f g : Facts) → facts_form f ≡ facts_form g → f ≡ g
facts_form-pinned f g h =
    let totals = pair-first h in
    let bounds = pair-second h in
    ap₂ (λ p q. (p, q))
    (ap₂ (λ a b. (a, b)) (number_form-pinned f.0.0 g.0.0 (pair-first totals)) (number_form-pinned f.0.1 g.0.1 (pair-second totals)))
    (ap₂ (λ a b. (a, b)) (bound-pinned f.1.0 g.1.0 (pair-first bounds)) (bound-pinned f.1.1 g.1.1 (pair-second bounds)))

pub facts_form-shallow : (f : Facts) → depth (facts_form f) ≤ 3
facts_form-shallow f = omega (arith, option_form-shallow number_form 0 (λ _. zero-le) f.1.0, option_form-shallow number_form 0 (λ _. zero-le) f.1.1)

pub facts_form-plain : (f : Facts) → has_float (facts_form f) ≡ false
facts_form-plain f =
    pair_form-plain (pair_form (number_form f.0.0) (number_form f.0.1)) (pair_form (option_form number_form f.1.0) (option_form number_form f.1.1))
    (pair_form-plain (number_form f.0.0) (number_form f.0.1) (number_form-plain f.0.0) (number_form-plain f.0.1))
    (pair_form-plain (option_form number_form f.1.0) (option_form number_form f.1.1) (option_form-plain number_form number_form-plain f.1.0) (option_form-plain number_form number_form-plain f.1.1))

-- sets of one form have one content
pub keys-pinned : {K : Type 0} (form : K → Data) → ((j k : K) → form j ≡ form k → j ≡ k) → (ks js : List K) → list_form form ks ≡ list_form form js → as_keys ks ≡ as_keys js
keys-pinned form pinned ks js h = ap as_keys (map-itself (list_form-pinned form (λ k. k) pinned ks js h))
