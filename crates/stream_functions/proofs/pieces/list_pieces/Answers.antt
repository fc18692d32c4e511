use Rattle.std.proofs.Common.{rules, ℕ, Bool, ◌==◌, Bor, List, ◌++◌, map, ap, ◌∙◌}
use Rattle.std.proofs.lemmas.List.{map-append}
use Rattle.stream_functions.specs.Pieces.{pieces}
use Rattle.stream_functions.proofs.Separated.{next-piece, last-piece}
use Rattle.stream_functions.proofs.pieces.list_pieces.Goals as goal

pub loop-piece-preserved : goal.loop-piece-preserved
loop-piece-preserved c =
    let ends : ℕ → Bool = λ b. b == c.args.separator in
    let cut = c.in-Some.ensures.byte c.requires (λ w o h. h) in (
      search rules,
      ap (λ l. l ++ pieces ends c.in-Some.behind.now) (ap (map (λ (p : Bor (List ℕ)). p.now)) c.in_ok-push.ensures.items ∙ map-append _ _ _)
          ∙ next-piece ends _ _ _ _ _ c.loop-piece.invariant.1 cut.2 cut.0 cut.1,
    )

pub returns : goal.returns
returns c =
    let ends : ℕ → Bool = λ b. b == c.args.separator in
    let none = c.in_default.ensures.byte c.requires (λ w o h. h) in
    ap (map (λ (p : Bor (List ℕ)). p.now)) c.in_ok-push-2.ensures.items ∙ map-append _ _ _
    ∙ last-piece ends _ _ _ c.loop-piece.invariant.1 none
