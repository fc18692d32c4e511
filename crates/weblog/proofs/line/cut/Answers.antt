use Rattle.std.proofs.Common.{◌≡◌, ◌==◌, ◌∙◌, ℕ, zero, suc, Bool, List, [], length, ap, sym, refl, arith}
use Rattle.std.specs.List.{position_or_len, before_first, after_first}
use Rattle.std.proofs.lemmas.List.{take_all, drop_all}
use Rattle.stream_functions.specs.Pieces.{piece}
use Rattle.weblog.proofs.line.cut.Goals as goal

first-piece : (ends : ℕ → Bool) (text : List ℕ) → before_first ends text ≡ piece ends zero text
unfolding piece
first-piece ends text = refl

later-piece : (ends : ℕ → Bool) (at : ℕ) (text : List ℕ) → piece ends at (after_first ends text) ≡ piece ends (suc at) text
unfolding piece
later-piece ends at text = refl

whole : (ends : ℕ → Bool) (text : List ℕ) → position_or_len ends text ≡ length text → text ≡ before_first ends text
whole ends text none = sym (take_all _ text (omega (arith, none)))

nothing : (ends : ℕ → Bool) (text : List ℕ) → position_or_len ends text ≡ length text → [] ≡ after_first ends text
nothing ends text none = sym (drop_all _ text (omega (arith, none)))

pub returns-in-Some-clause-first : goal.returns-in-Some-clause-first
returns-in-Some-clause-first c =
    let ends : ℕ → Bool = λ b. b == c.args.separator in
    (c.in-Some.ensures.byte c.requires (λ w o h. h)).0 ∙ first-piece ends c.args.text.now

pub returns-in-Some-clause-behind : goal.returns-in-Some-clause-behind
returns-in-Some-clause-behind c = λ at.
    let ends : ℕ → Bool = λ b. b == c.args.separator in
    ap (piece ends at) (c.in-Some.ensures.byte c.requires (λ w o h. h)).1 ∙ later-piece ends at c.args.text.now

pub returns-in-None-clause-first : goal.returns-in-None-clause-first
returns-in-None-clause-first c =
    let ends : ℕ → Bool = λ b. b == c.args.separator in
    whole ends c.args.text.now (c.in-None.ensures.byte c.requires (λ w o h. h)) ∙ first-piece ends c.args.text.now

pub returns-in-None-clause-behind : goal.returns-in-None-clause-behind
returns-in-None-clause-behind c = λ at.
    let ends : ℕ → Bool = λ b. b == c.args.separator in
    ap (piece ends at) (nothing ends c.args.text.now (c.in-None.ensures.byte c.requires (λ w o h. h))) ∙ later-piece ends at c.args.text.now
