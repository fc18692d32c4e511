-- The parts of a source behind a segment: a part that is put behind the others stands next.
use Rattle.std.specs.Prelude.{◌≡◌, ◌<◌, ◌≤◌, ◌+◌, ◌^◌, ◌++◌, ◌∷◌, [], ℕ, zero, suc, List, fold, length}
use Rattle.std.proofs.Common.{sym, ap, ◌∙◌, arith, append_assoc}
use Rattle.std.proofs.Math.Nat.{pow-le-pow_right, two-pow-succ}
use Rattle.std.proofs.lemmas.Nat.{pow_pos}
use Rattle.std.proofs.lemmas.List.Sums.{fold_push}
use Rattle.parallel_streams.specs.Sources.{items_behind, weight_behind}

module _ {S C : Type 0} (items : S → List C) where
  items-push : (parts : List S) (part : S) → items_behind items (parts ++ part ∷ []) ≡ items part ++ items_behind items parts
  items-push parts part = fold_push (λ behind p. items p ++ behind) [] parts part

  -- a front whose rest is put behind it
  pub split-items : (front part rest : S) (parts now : List S) (whole : List C) → items front ≡ items part ++ items rest → now ≡ parts ++ rest ∷ []
      → items front ++ items_behind items parts ≡ whole → items part ++ items_behind items now ≡ whole
  split-items front part rest parts now whole joins is so_far =
      ap (λ l. items part ++ items_behind items l) is ∙ ap (λ l. items part ++ l) (items-push parts rest) ∙ sym (append_assoc (items part) (items rest) (items_behind items parts))
      ∙ ap (λ l. l ++ items_behind items parts) (sym joins) ∙ so_far

  -- the part that stands next is taken off, and split: its front is the next segment
  pub joined-next : (parts rest now : List S) (next front : S) (segment : List C) → parts ≡ rest ++ next ∷ [] → segment ≡ items front → items front ++ items_behind items now ≡ items next ++ items_behind items rest
      → segment ++ items_behind items now ≡ items_behind items parts
  joined-next parts rest now next front segment was is split =
      ap (λ l. l ++ items_behind items now) is ∙ split ∙ sym (items-push rest next) ∙ sym (ap (items_behind items) was)

module _ {S : Type 0} (weight : S → ℕ) where
  pub weight-push : (parts : List S) (part : S) → weight_behind weight (parts ++ part ∷ []) ≡ 2 ^ weight part + weight_behind weight parts
  weight-push parts part = fold_push (λ behind p. 2 ^ weight p + behind) 0 parts part

  two-lighter : (a b c : ℕ) → a < c → b < c → 2 ^ a + 2 ^ b ≤ 2 ^ c
  two-lighter a b (suc m) less other =
      let one : 2 ^ a ≤ 2 ^ m = pow-le-pow_right (omega arith) (omega (arith, less)) in
      let two : 2 ^ b ≤ 2 ^ m = pow-le-pow_right (omega arith) (omega (arith, other)) in
      let sum : 2 ^ suc m ≡ 2 ^ m + 2 ^ m = two-pow-succ m in
      omega (arith, one, two, sum)
  two-lighter a b zero less other = absurd (omega (arith, less))

  pub split-weight : (front part rest : S) (parts now : List S) (most : ℕ) → weight part < weight front → weight rest < weight front → now ≡ parts ++ rest ∷ []
      → 2 ^ weight front + weight_behind weight parts ≤ most → 2 ^ weight part + weight_behind weight now ≤ most
  split-weight front part rest parts now most less other is so_far =
      let pushed : weight_behind weight now ≡ 2 ^ weight rest + weight_behind weight parts = ap (weight_behind weight) is ∙ weight-push parts rest in
      let both = two-lighter (weight part) (weight rest) (weight front) less other in
      omega (arith, pushed, both, so_far)

  weight-from : (parts : List S) (n : ℕ) → n ≤ fold (λ behind p. 2 ^ weight p + behind) n parts
  weight-from [] n = omega arith
  weight-from (p ∷ parts) n = let more = weight-from parts (2 ^ weight p + n) in omega (arith, more)

  -- where there is a part, there is a weight
  pub weight-some : (parts : List S) → 0 < length parts → 0 < weight_behind weight parts
  weight-some [] some = absurd (omega (arith, some))
  weight-some (p ∷ parts) some = let more = weight-from parts (2 ^ weight p + 0) in let one = pow_pos (weight p) in omega (arith, more, one)

  -- the part that stands next is taken off, and split: what stands behind its front is lighter than before
  pub weight-next : (parts rest now : List S) (next front : S) → parts ≡ rest ++ next ∷ [] → 2 ^ weight front + weight_behind weight now ≤ 2 ^ weight next + weight_behind weight rest
      → weight_behind weight now < weight_behind weight parts
  weight-next parts rest now next front is less =
      let pushed : weight_behind weight parts ≡ 2 ^ weight next + weight_behind weight rest = ap (weight_behind weight) is ∙ weight-push rest next in
      let one = pow_pos (weight front) in
      omega (arith, pushed, less, one)
