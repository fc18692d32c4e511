-- Fronts of lists of contents.
use Rattle.std.proofs.Common.{◌≡◌, ◌+◌, ◌<◌, ℕ, suc, min, add-one, ⊎_elim, Bool, true, false, cond, List, ◌∷◌, map, drop, length, ap, ◌∙◌, sym, arith}
use Rattle.std.specs.List.{prefix_len}
use Rattle.std.proofs.Math.Seq.{drop-cons}
use Rattle.std.proofs.Math.ListN.{get_or, get_or-map}
use Rattle.std.proofs.lemmas.List.{length-map, drop_all}
use Rattle.std.proofs.lemmas.Bool.{cases_lt}

module _ {T C : Type 0} (content : T → C) (p : C → Bool) (items : List T) (i : ℕ) (x : T) (within : i < length items) (read : x ≡ get_or items i x) where
  from_here : drop i (map content items) ≡ content x ∷ drop (i + 1) (map content items)
  from_here =
      let inside : i < length (map content items) = let e = length-map {A = T} {B = C} in omega arith in
      drop-cons (map content items) i (content x) inside
      ∙ ap (λ c. c ∷ drop (suc i) (map content items)) (get_or-map content items i x ∙ ap content (sym read))
      ∙ ap (λ n. content x ∷ drop n (map content items)) (sym (add-one i))

  pub front-more : p (content x) ≡ true → prefix_len p (drop i (map content items)) ≡ 1 + prefix_len p (drop (i + 1) (map content items))
  front-more passes = ap (prefix_len p) from_here ∙ ap (λ b. cond b (1 + prefix_len p (drop (i + 1) (map content items))) 0) passes

  pub front-ends : p (content x) ≡ false → prefix_len p (drop i (map content items)) ≡ 0
  front-ends fails = ap (prefix_len p) from_here ∙ ap (λ b. cond b (1 + prefix_len p (drop (i + 1) (map content items))) 0) fails

-- dropping no more than there is
pub drop-at_most : {T : Type 0} (n : ℕ) (items : List T) → drop (min (length items) n) items ≡ drop n items
drop-at_most n items =
    ⊎_elim
    (λ past. drop_all (min (length items) n) items (omega arith) ∙ sym (drop_all n items (omega arith)))
    (λ within. ap (λ m. drop m items) (omega arith))
    (cases_lt (length items) n)
