-- A list that is cut into parts at ascending places.
use Rattle.std.specs.Prelude.{◌≡◌, ◌≤◌, ◌+◌, ◌-◌, ◌<◌, ℕ, zero, suc, List, [], ◌∷◌, ◌++◌, take, drop, length, map, slice_get, slice_index, Some, refl}
use Rattle.std.proofs.Common.{sym, ap, ap₂, ◌∙◌, arith}
use Rattle.std.proofs.lemmas.List.{take-append-drop, length-drop}
use Rattle.std.proofs.lemmas.List.{take-map, drop-map}
use Rattle.stealing_pool.specs.Spans.{joined}
use Rattle.parallel_streams.specs.LeafLaws.{drop-more}

-- each place is at least the one before it, and the last is the end
abbrev pub Ascends : ℕ → ℕ → List ℕ → Type 0
Ascends from end [] = from ≡ end
Ascends from end (e ∷ es) = (from ≤ e) × Ascends e end es

-- the parts of a list that begins at a place
abbrev pub cut_at : {T : Type 0} → ℕ → List ℕ → List T → List (List T)
cut_at from [] l = []
cut_at from (e ∷ es) l = take (e - from) l ∷ cut_at e es (drop (e - from) l)

-- where a part begins
abbrev pub start_at : ℕ → List ℕ → ℕ → ℕ
start_at from ends zero = from
start_at from ends (suc i) = slice_index ends i

pub Ascends-reach : (from end : ℕ) (es : List ℕ) → Ascends from end es → from ≤ end
Ascends-reach from end [] h = omega (arith, h)
Ascends-reach from end (e ∷ es) h = let rest = Ascends-reach e end es h.1 in let first : from ≤ e = h.0 in omega arith

nothing : {T : Type 0} (from : ℕ) (l : List T) → from ≡ from + length l → [] ≡ l
nothing from [] h = refl
nothing from (x ∷ l) h = absurd (omega (arith, h))

-- the parts are the list
pub joined-cut_at : {T : Type 0} (from end : ℕ) (es : List ℕ) (l : List T) → Ascends from end es → end ≡ from + length l → joined (cut_at from es l) ≡ l
joined-cut_at from end [] l h e = nothing from l (h ∙ e)
joined-cut_at from end (p ∷ es) l h e =
    let first : from ≤ p = h.0 in
    let within : p ≤ end = Ascends-reach p end es h.1 in
    let left = length-drop (p - from) l in
    let rest = joined-cut_at p end es (drop (p - from) l) h.1 (omega (arith, left)) in
    ap (λ m. take (p - from) l ++ m) rest ∙ take-append-drop (p - from) l

pub length-cut_at : {T : Type 0} (from : ℕ) (es : List ℕ) (l : List T) → length (cut_at from es l) ≡ length es
length-cut_at from [] l = refl
length-cut_at from (e ∷ es) l = ap suc (length-cut_at e es (drop (e - from) l))

next_start : (from e : ℕ) (es : List ℕ) (i : ℕ) → start_at from (e ∷ es) (suc i) ≡ start_at e es i
next_start from e es zero = refl
next_start from e es (suc i) = refl

start-from : (from end : ℕ) (es : List ℕ) (i : ℕ) → Ascends from end es → i < length es → from ≤ start_at from es i
start-from from end [] i h within = absurd (omega (arith, within))
start-from from end (e ∷ es) zero h within = omega arith
start-from from end (e ∷ es) (suc i) h within =
    let first : from ≤ e = h.0 in
    let rest = start-from e end es i h.1 (omega (arith, within)) in
    let same = next_start from e es i in
    omega (arith, same)

-- each part begins at or before its end, and ends within the list
pub start-within : (from end : ℕ) (es : List ℕ) (i : ℕ) → Ascends from end es → i < length es → (start_at from es i ≤ slice_index es i) × (slice_index es i ≤ end)
start-within from end [] i h within = absurd (omega (arith, within))
start-within from end (e ∷ es) zero h within = (h.0, Ascends-reach e end es h.1)
start-within from end (e ∷ es) (suc i) h within =
    let rest = start-within e end es i h.1 (omega (arith, within)) in
    let same = next_start from e es i in
    let first = rest.0 in
    (omega (arith, same), rest.1)

-- a part, by its places
pub part-cut_at : {T : Type 0} (from end : ℕ) (es : List ℕ) (l : List T) (i : ℕ) → Ascends from end es → i < length es
    → slice_get (cut_at from es l) i ≡ Some (take (slice_index es i - start_at from es i) (drop (start_at from es i - from) l))
part-cut_at from end [] l i h within = absurd (omega (arith, within))
part-cut_at from end (e ∷ es) l zero h within =
    let none : 0 ≡ from - from = omega arith in
    ap (λ n. Some (take (e - from) (drop n l))) none
part-cut_at from end (e ∷ es) l (suc i) h within =
    let first : from ≤ e = h.0 in
    let below : i < length es = omega (arith, within) in
    let later = start-from e end es i h.1 below in
    let place : (e - from) + (start_at e es i - e) ≡ start_at e es i - from = omega arith in
    let same = next_start from e es i in
    part-cut_at e end es (drop (e - from) l) i h.1 below
    ∙ ap (λ m. Some (take (slice_index es i - start_at e es i) m)) (drop-more (e - from) (start_at e es i - e) l ∙ ap (λ n. drop n l) place)
    ∙ ap (λ s. Some (take (slice_index es i - s) (drop (s - from) l))) (sym same)

-- the parts of the contents are the contents of the parts
pub cut_at-map : {T C : Type 0} (content : T → C) (from : ℕ) (es : List ℕ) (l : List T) → map (map content) (cut_at from es l) ≡ cut_at from es (map content l)
cut_at-map content from [] l = refl
cut_at-map content from (e ∷ es) l =
    ap₂ (λ p ps. p ∷ ps) (sym (take-map content (e - from) l)) (cut_at-map content e es (drop (e - from) l) ∙ ap (cut_at e es) (sym (drop-map content (e - from) l)))
