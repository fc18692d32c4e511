use Rattle.std.proofs.Common.{ℕ, Bool, ◌==◌, ◌-◌, ◌∙◌, ap, sym, arith}
use Rattle.stream_functions.specs.Pieces.{piece}
use Rattle.stream_functions.proofs.Numerals.{all-before, no-piece, piece-behind, piece-first}
use Rattle.stream_functions.proofs.pieces.+piece_of.Goals as goal

pub returns-in-Some-eq0 : goal.returns-in-Some-eq0
returns-in-Some-eq0 t c =
    let ends : ℕ → Bool = λ b. b == c.args.separator in
    let parts = c.in-Some-eq0.ensures.byte c.requires.1.1 (λ w o h. h) in
    parts.0 ∙ piece-first ends c.args.text.now ∙ ap (λ at. piece ends at c.args.text.now) (sym c.in-Some-eq0.is-1)

pub returns-in-Some-default : goal.returns-in-Some-default
returns-in-Some-default t c =
    let ends : ℕ → Bool = λ b. b == c.args.separator in
    let parts = c.in-Some-default.ensures.byte c.requires.1.1 (λ w o h. h) in
    c.piece_of.ensures ∙ ap (piece ends (c.args.at - 1)) parts.1
    ∙ piece-behind ends c.args.at c.args.text.now (omega (arith, c.in-Some-default.is-1))

pub returns-in-None-eq0 : goal.returns-in-None-eq0
returns-in-None-eq0 t c =
    let ends : ℕ → Bool = λ b. b == c.args.separator in
    all-before ends c.args.text.now (c.in-None-eq0.ensures.byte c.requires.1.1 (λ w o h. h)) ∙ ap (λ at. piece ends at c.args.text.now) (sym c.in-None-eq0.is-1)

pub returns-in-None-default : goal.returns-in-None-default
returns-in-None-default t c =
    let ends : ℕ → Bool = λ b. b == c.args.separator in
    no-piece ends c.args.at c.args.text.now (omega (arith, c.in-None-default.is-1)) (c.in-None-default.ensures.byte c.requires.1.1 (λ w o h. h))
