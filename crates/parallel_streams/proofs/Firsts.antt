-- Reductions from an identity.
use Rattle.std.specs.Prelude.{◌≡◌, All, List, [], ◌∷◌, Some, None, fold, refl}
use Rattle.std.proofs.Common.{ap, sym, ◌∙◌}
use Rattle.std.proofs.lemmas.List.Elements.{All-head}
use Rattle.collectors.specs.Reductions.{reduced}
use Rattle.parallel_streams.specs.Terminals.{IsLeftIdentity}

module _ {C : Type 0} (is_value : C → Type 0) (join : C → C → C) (e : C) (identity : IsLeftIdentity is_value join e) where
  -- a reduction of some values is the fold from an identity
  pub fold-reduced_some : (l : List C) (x : C) → All is_value l → Some x ≡ reduced join l → x ≡ fold join e l
  fold-reduced_some [] x values h = absurd (some≢none h)
    where
      some≢none : Some x ≡ None → ⊥
      some≢none h = cc
  fold-reduced_some (y ∷ l) x values h =
      let first : join e y ≡ y = identity y (All-head is_value y l values) in
      some-same h ∙ ap (λ z. fold join z l) (sym first)
    where
      some-same : Some x ≡ Some (fold join y l) → x ≡ fold join y l
      some-same h = cc

  -- and of none is the identity
  pub fold-reduced_none : (l : List C) → None ≡ reduced join l → e ≡ fold join e l
  fold-reduced_none [] h = refl
  fold-reduced_none (y ∷ l) h = absurd (none≢some h)
    where
      none≢some : None ≡ Some (fold join y l) → ⊥
      none≢some h = cc
