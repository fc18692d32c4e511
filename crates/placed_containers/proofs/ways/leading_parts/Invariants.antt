use Rattle.std.proofs.Common.{◌≡◌, ℕ, true, [], ◌∷◌, reverse, nat_eq}
use Rattle.std.specs.Prelude.{All, Contains}
use Rattle.std.specs.List.{list_any}
use Rattle.placed_containers.specs.Ways.{IsStop, LeadsOn, reached}
use Rattle.placed_containers.proofs.ways.leading_parts.Given as goal

-- what is kept leads on to the end from each place that is reached; and these are those that the parts lead from, so far
abbrev pub invariant-loop-part : goal.invariant-loop-part
invariant-loop-part g l = record {
  can_next : (goal.iterator-loop-part g).can_next l.part-iterator;
  is_finite : (goal.iterator-loop-part g).is_finite l.part-iterator;
  left : All (Contains l.fn.parts.items) l.part-iterator.rest.items;
  members : All (Contains l.fn.parts.items) l.leading.items;
  leads : LeadsOn l.of (reverse l.leading.items);
  stops : (p : ℕ) → list_any (nat_eq p) l.places.keys ≡ true → IsStop l.of (reverse l.leading.items) p;
  goes : reached l.places.keys l.part-iterator.rest.items ≡ reached (l.of ∷ []) l.fn.parts.items;
}
