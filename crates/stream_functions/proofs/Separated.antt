-- The pieces of a text, taken off one after another.
use Rattle.std.specs.Prelude.{◌≡◌, ℕ, suc, ◌<◌, Bool, true, false, not, List, [], ◌∷◌, ◌++◌, ◌+◌, length, take, drop, if◌then◌else◌, cond, refl}
use Rattle.std.specs.List.{position_or_len, before_first, after_first}
use Rattle.std.proofs.Common.{ap, sym, ◌∙◌, arith}
use Rattle.std.proofs.lemmas.List.{append_assoc}
use Rattle.stages.specs.Tests.{either}
use Rattle.stream_functions.specs.Pieces.{begin_piece, pieces}

module _ (ends : ℕ → Bool) where
  at-once : (b : ℕ) (bs : List ℕ) → ends b ≡ true → position_or_len ends (b ∷ bs) ≡ 0
  at-once b bs is = ap (λ e. cond (not e) (1 + position_or_len ends bs) 0) is

  later : (b : ℕ) (bs : List ℕ) → ends b ≡ false → position_or_len ends (b ∷ bs) ≡ suc (position_or_len ends bs)
  later b bs is = ap (λ e. cond (not e) (1 + position_or_len ends bs) 0) is ∙ omega arith

  pieces-cut : (b : ℕ) (bs : List ℕ) → ends b ≡ true → pieces ends (b ∷ bs) ≡ [] ∷ pieces ends bs
  unfolding pieces
  pieces-cut b bs is = ap (λ e. if e then [] ∷ pieces ends bs else begin_piece b (pieces ends bs)) is

  pieces-begun : (b : ℕ) (bs : List ℕ) → ends b ≡ false → pieces ends (b ∷ bs) ≡ begin_piece b (pieces ends bs)
  unfolding pieces
  pieces-begun b bs is = ap (λ e. if e then [] ∷ pieces ends bs else begin_piece b (pieces ends bs)) is

  -- a text without a separator is one piece
  pub one-piece : (text : List ℕ) → position_or_len ends text ≡ length text → pieces ends text ≡ text ∷ []
  unfolding pieces
  one-piece [] h = refl
  one-piece (b ∷ bs) h = either (ends b)
      (λ is. absurd (omega (arith, h, at-once b bs is)))
      (λ is. pieces-begun b bs is ∙ ap (begin_piece b) (one-piece bs (omega (arith, h, later b bs is))))

  -- what stands before the first separator is the first piece, and the others are those of what stands behind it
  pub first-piece : (text : List ℕ) → position_or_len ends text < length text
      → pieces ends text ≡ before_first ends text ∷ pieces ends (after_first ends text)
  first-piece [] h = absurd (omega (arith, h))
  first-piece (b ∷ bs) h = either (ends b)
      (λ is. pieces-cut b bs is ∙ sym (ap (λ at. take at (b ∷ bs) ∷ pieces ends (drop (at + 1) (b ∷ bs))) (at-once b bs is)))
      (λ is.
      let at = position_or_len ends bs in
      let next : suc at + 1 ≡ suc (at + 1) = omega arith in
      pieces-begun b bs is ∙ ap (begin_piece b) (first-piece bs (omega (arith, h, later b bs is)))
      ∙ sym (ap (λ at. take at (b ∷ bs) ∷ pieces ends (drop (at + 1) (b ∷ bs))) (later b bs is)
      ∙ ap (λ n. take (suc at) (b ∷ bs) ∷ pieces ends (drop n (b ∷ bs))) next))

  -- one piece more is taken off a rest
  pub next-piece : (front : List (List ℕ)) (whole : List (List ℕ)) (rest before behind : List ℕ) → front ++ pieces ends rest ≡ whole
      → position_or_len ends rest < length rest → before ≡ before_first ends rest → behind ≡ after_first ends rest
      → (front ++ (before ∷ [])) ++ pieces ends behind ≡ whole
  next-piece front whole rest before behind taken more is_before is_behind =
      append_assoc front (before ∷ []) (pieces ends behind)
      ∙ ap (λ p. front ++ (p ∷ pieces ends behind)) is_before
      ∙ ap (λ r. front ++ (before_first ends rest ∷ pieces ends r)) is_behind
      ∙ ap (λ l. front ++ l) (sym (first-piece rest more)) ∙ taken

  -- the rest is the last piece
  pub last-piece : (front : List (List ℕ)) (whole : List (List ℕ)) (rest : List ℕ) → front ++ pieces ends rest ≡ whole
      → position_or_len ends rest ≡ length rest → front ++ (rest ∷ []) ≡ whole
  last-piece front whole rest taken none = ap (λ l. front ++ l) (sym (one-piece rest none)) ∙ taken
