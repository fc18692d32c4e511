-- What is told of two lists apart is told of both.
use Rattle.std.specs.Prelude.{◌≡◌, ℤ, pos, ◌+ℤ◌, List, [], ◌∷◌, ◌++◌, fold, Option, Some, None}
use Rattle.std.specs.Int.{int_min, int_max}
use Rattle.std.proofs.Common.{refl, sym, ap, ap₂, ◌∙◌, arith, w64}
use Rattle.std.proofs.Math.IntN.{+ℤ_idl}
use Rattle.std.proofs.lemmas.Int.{int_wrap-add_right, clamps, ints}
use Rattle.std.proofs.lemmas.List.Sums.{fold-append}
use Rattle.stages.specs.Wrapping.{wrapped, wrapped_sum, wrapped_sum_assoc}
use Rattle.collectors.specs.Reductions.{reduce_add, reduce_merge}
use Rattle.derived_collectors.specs.Facts.{Facts, no_facts, add_facts, merge_facts}

sum-begun : (a n : ℤ) → wrapped_sum a (wrapped_sum (pos 0) n) ≡ wrapped_sum a n
sum-begun a n = int_wrap-add_right w64 a (pos 0 +ℤ n) ∙ ap (λ m. wrapped (a +ℤ m)) (+ℤ_idl n)

bound-begun : (join : ℤ → ℤ → ℤ) (o : Option ℤ) (n : ℤ) → reduce_merge join o (Some n) ≡ reduce_add join o n
bound-begun join None n = refl
bound-begun join (Some a) n = refl

bound-add : (join : ℤ → ℤ → ℤ) → ((a b c : ℤ) → join a (join b c) ≡ join (join a b) c) → (o p : Option ℤ) (n : ℤ)
    → reduce_merge join o (reduce_add join p n) ≡ reduce_add join (reduce_merge join o p) n
bound-add join associative None p n = refl
bound-add join associative (Some a) None n = refl
bound-add join associative (Some a) (Some b) n = ap Some (associative a b n)

least-associative : (a b c : ℤ) → int_min a (int_min b c) ≡ int_min (int_min a b) c
least-associative a b c = omega (arith, clamps, ints)

greatest-associative : (a b c : ℤ) → int_max a (int_max b c) ≡ int_max (int_max a b) c
greatest-associative a b c = omega (arith, clamps, ints)

module _ {X : Type 0} (number : X → ℤ) where
  merge-begun : (f : Facts) (x : X) → merge_facts f (add_facts number no_facts x) ≡ add_facts number f x
  merge-begun f x =
      ap₂ (λ (p : ℤ × ℤ) (q : Option ℤ × Option ℤ). (p, q))
      (ap₂ (λ (a b : ℤ). (a, b)) (sum-begun f.0.0 (pos 1)) (sum-begun f.0.1 (number x)))
      (ap₂ (λ (a b : Option ℤ). (a, b)) (bound-begun int_min f.1.0 (number x)) (bound-begun int_max f.1.1 (number x)))

  merge-add : (f g : Facts) (x : X) → merge_facts f (add_facts number g x) ≡ add_facts number (merge_facts f g) x
  merge-add f g x =
      ap₂ (λ (p : ℤ × ℤ) (q : Option ℤ × Option ℤ). (p, q))
      (ap₂ (λ (a b : ℤ). (a, b)) (wrapped_sum_assoc f.0.0 g.0.0 (pos 1)) (wrapped_sum_assoc f.0.1 g.0.1 (number x)))
      (ap₂ (λ (a b : Option ℤ). (a, b)) (bound-add int_min least-associative f.1.0 g.1.0 (number x)) (bound-add int_max greatest-associative f.1.1 g.1.1 (number x)))

  merge-fold : (f g : Facts) (l : List X) → merge_facts f (fold (add_facts number) g l) ≡ fold (add_facts number) (merge_facts f g) l
  merge-fold f g [] = refl
  merge-fold f g (x ∷ l) = merge-fold f (add_facts number g x) l ∙ ap (λ h. fold (add_facts number) h l) (merge-add f g x)

  -- the second list's facts may be gathered by themselves
  pub both_halves : (f : Facts) (front : List X) (x : X) (back : List X)
      → merge_facts (fold (add_facts number) f front) (fold (add_facts number) (add_facts number no_facts x) back) ≡ fold (add_facts number) f (front ++ x ∷ back)
  both_halves f front x back =
      let g : Facts = fold (add_facts number) f front in
      merge-fold g (add_facts number no_facts x) back
      ∙ ap (λ h. fold (add_facts number) h back) (merge-begun g x)
      ∙ sym (fold-append (add_facts number) f front (x ∷ back))
