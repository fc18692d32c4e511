use Rattle.std.proofs.Common.{ℕ, ◌≡◌, rules}
use Rattle.std.specs.declared.cmp.Reverse.{Reverse}
use Rattle.std.proofs.lemmas.Fn.{always_returns_same}
use Rattle.placed_containers.specs.declared.pieces.Part.{Part}
use Rattle.placed_containers.proofs.Falling.{falling-sorted}
use Rattle.placed_containers.proofs.pieces.sort_parts.Goals as goal

pub returns-clause-falling : goal.returns-clause-falling
returns-clause-falling g c =
    let key : Part g.row.A.Denot → Reverse (ℕ × ℕ) = λ part. record { 0 = (part.places.from, part.places.to) } in
    falling-sorted c.sort_unstable_by_key.new.self.items
    (c.sort_unstable_by_key.ensures.sorted key (always_returns_same _ (λ a r. r ≡ key a.0.now) _ (λ a r f k. search rules)))
