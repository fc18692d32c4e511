-- A number of items, as an i64.
use Rattle.std.specs.Prelude.{◌≡◌, ℕ, ◌<◌, ◌^◌, ℤ, pos, ◌+ℤ◌, List, fold, map, length, refl}
use Rattle.std.specs.Int.{int_wrap, cast_signed}
use Rattle.std.proofs.Common.{w64, sym, ap, ◌∙◌, pow_pos, mod-eq_of_lt, unsigned_abs, FitsSigned}
use Rattle.std.proofs.Math.IntN.{+ℤ_idr}
use Rattle.std.proofs.lemmas.List.{length-map}
use Rattle.std.proofs.lemmas.Int.{int_rem_euclid_is, int_wrap_fits, int_wrap-add_right}
use Rattle.stages.specs.Wrapping.{wrapped, wrapped_sum}
use Rattle.collectors.specs.Sums.{add_number, count_from}

cast : (n : ℕ) → n < 2 ^ 64 → cast_signed w64 n ≡ wrapped (pos n)
unfolding int_wrap
cast n small =
    let m = 2 ^ 64 in
    sym (ap (λ r. cast_signed w64 (unsigned_abs r)) (int_rem_euclid_is (pos n) (pos m) m 0 n (pow_pos (64)) refl (+ℤ_idr (pos n)))
    ∙ ap (cast_signed w64) (mod-eq_of_lt small))

-- so many ones at once
pub counted : {T X : Type 0} (content : T → X) (a : ℤ) (items : List T) → FitsSigned w64 a → length items < 2 ^ 64
    → wrapped_sum a (cast_signed w64 (length items)) ≡ fold (add_number {X = X} (λ _. pos 1)) a (map content items)
counted content a items fits small =
    let l = map content items in
    ap (wrapped_sum a) (cast (length items) small)
    ∙ int_wrap-add_right w64 a (pos (length items))
    ∙ ap (λ n. wrapped (a +ℤ pos n)) (sym (length-map items content))
    ∙ sym (count_from a l)
    ∙ ap (λ n. fold (add_number (λ _. pos 1)) n l) (int_wrap_fits w64 a fits)
