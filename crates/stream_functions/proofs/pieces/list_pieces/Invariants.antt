use Rattle.std.proofs.Common.{◌≡◌, ◌++◌, ◌==◌, ℕ, Bool, map, length}
use denote.Text.{Utf8}
use denote.Shadow.{shadow}
use Rattle.stream_functions.specs.Pieces.{pieces}
use Rattle.stream_functions.proofs.pieces.list_pieces.Given as goal

abbrev pub invariant-loop-piece : goal.invariant-loop-piece
invariant-loop-piece l =
    let ends : ℕ → Bool = λ b. b == l.fn.separator in
    shadow (Utf8 l.rest)
    × (map (λ piece. piece.now) l.list.items ++ pieces ends l.rest ≡ pieces ends l.fn.text)

abbrev pub decreases-loop-piece : goal.decreases-loop-piece
decreases-loop-piece l = length l.rest
