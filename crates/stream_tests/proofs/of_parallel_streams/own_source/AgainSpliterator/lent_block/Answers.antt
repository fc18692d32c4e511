use Rattle.std.proofs.Common.{◌≡◌, ◌≤◌, ◌-◌, ◌++◌, ◌∷◌, ◌∙◌, [], ℕ, ℤ, List, ap, ap₂, sym, map, take, length, arith, refl, pos}
use Rattle.std.specs.Prelude.{replicate}
use Rattle.std.proofs.lemmas.List.{take-replicate, replicate-append-replicate}
use Rattle.stream_tests.proofs.of_parallel_streams.own_source.AgainSpliterator.lent_block.Goals as goal

map-same : (f : ℤ → ℤ) → ((x : ℤ) → f x ≡ x) → (l : List ℤ) → map f l ≡ l
map-same f same [] = refl
map-same f same (x ∷ l) = ap₂ (λ a m. a ∷ m) (same x) (map-same f same l)

-- what is lent of a number again and again, and what is left of it
lent : (content : ℤ → ℤ) (n left : ℕ) (y : ℤ) (block part : List ℤ) → ((x : ℤ) → content x ≡ x) → block ≡ replicate (length block) y → part ≡ take n block → n ≤ length block → n ≤ left
    → replicate left y ≡ map content part ++ replicate (left - n) y
lent content n left y block part same alike is within most =
    let whole : replicate n y ++ replicate (left - n) y ≡ replicate left y = replicate-append-replicate n (left - n) y ∙ ap (λ k. replicate k y) (omega (arith, most)) in
    let front : part ≡ replicate n y = is ∙ ap (take n) alike ∙ take-replicate n (length block) y within in
    sym whole ∙ ap (λ l. l ++ replicate (left - n) y) (sym front ∙ sym (map-same content same part))

pub returns-clause-lent : goal.returns-clause-lent
returns-clause-lent c =
    let s = c.args.self.now in
    lent (λ x. x) c.min-number.result s.left (pos 7) s.block.now c.split_at.result.0.now (λ x. refl) s.alike c.split_at.ensures.front
    (omega (arith, c.min-number.ensures)) c.if-number-self.false
