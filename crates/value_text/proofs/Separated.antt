-- Texts written one behind another, each behind what separates it from the last.
use Rattle.std.proofs.Common.{sym, ap, ◌∙◌, append_assoc, append-nil, ◌≡◌, ℕ, List, [], ◌∷◌, ◌++◌, codes, refl}
use Rattle.value_text.specs.Texts.{with_commas}

-- what the texts add to a text, where `between` stands before the first
abbrev pub behind : List ℕ → List (List ℕ) → List ℕ
behind between [] = []
behind between (t ∷ ts) = between ++ with_commas (t ∷ ts)

behind-first : (between t : List ℕ) (ts : List (List ℕ)) → behind between (t ∷ ts) ≡ between ++ t ++ behind (codes ", ") ts
behind-first between t [] = sym (append-nil (between ++ t))
behind-first between t (u ∷ us) = simp append_assoc

-- one more text was written
pub behind-next : (done now between t : List ℕ) (ts : List (List ℕ)) → now ≡ done ++ between ++ t → now ++ behind (codes ", ") ts ≡ done ++ behind between (t ∷ ts)
behind-next done now between t ts written =
    let regrouped : (done ++ between ++ t) ++ behind (codes ", ") ts ≡ done ++ (between ++ t ++ behind (codes ", ") ts) = simp append_assoc in
    ap (λ b. b ++ behind (codes ", ") ts) written ∙ regrouped ∙ ap (λ b. done ++ b) (sym (behind-first between t ts))

-- no separator stands before the first
pub behind-nothing : (ts : List (List ℕ)) → behind [] ts ≡ with_commas ts
behind-nothing [] = refl
behind-nothing (t ∷ ts) = refl
