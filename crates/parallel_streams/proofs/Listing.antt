-- Lists of leaves that are put one behind another.
use Rattle.std.specs.Prelude.{◌≡◌, ◌<◌, ◌+◌, ℕ, zero, suc, List, [], ◌∷◌, ◌++◌, map, flat_map, length, take, slice_index_or, refl}
use Rattle.std.proofs.Common.{sym, ap, ◌∙◌, subst, append-nil, append_assoc, arith}
use Rattle.stages.specs.Appends.{Appends, append-append}
use Rattle.stealing_pool.specs.Spans.{joined}
use Rattle.parallel_streams.specs.LeafLaws.{map-alone}

joined-one : {C : Type 0} (i : ℕ) (lists : List (List C)) → i < length lists → joined (take (suc i) lists) ≡ joined (take i lists) ++ slice_index_or lists i []
joined-one i [] h = absurd (omega (arith, h))
joined-one zero (l ∷ lists) h = append-nil l
joined-one (suc i) (l ∷ lists) h =
    ap (λ m. l ++ m) (joined-one i lists (omega (arith, h))) ∙ sym (append_assoc l (joined (take i lists)) (slice_index_or lists i []))

-- one leaf's list behind those of the leaves before it
pub listed-one : {T C : Type 0} (content : T → C) (lists : List (List C)) (leaf : ℕ) (old now new : List T) → leaf < length lists
    → Appends content (joined (take leaf lists)) old now → Appends content (slice_index_or (map (flat_map (λ x. x ∷ [])) lists) leaf []) now new
    → Appends content (joined (take (leaf + 1) lists)) old new
listed-one {T} {C} content lists leaf old now new within before here =
    let P : List (List C) → Type 0 = λ l. Appends content (slice_index_or l leaf []) now new in
    let Q : List C → Type 0 = λ l. Appends content l old new in
    let next : suc leaf ≡ leaf + 1 = omega arith in
    subst Q (sym (joined-one leaf lists within) ∙ ap (λ n. joined (take n lists)) next) (append-append content (joined (take leaf lists)) (slice_index_or lists leaf []) old now new before (subst P (map-alone lists) here))

take-whole : {T : Type 0} (n : ℕ) (xs : List T) → length xs ≡ n → take n xs ≡ xs
take-whole zero [] h = refl
take-whole (suc n) [] h = absurd (omega (arith, h))
take-whole zero (x ∷ xs) h = absurd (omega (arith, h))
take-whole (suc n) (x ∷ xs) h = ap (λ l. x ∷ l) (take-whole n xs (omega (arith, h)))
