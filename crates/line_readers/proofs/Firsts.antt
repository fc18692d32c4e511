-- The first item of a list is that of each longer one.
use Rattle.std.specs.Prelude.{◌≡◌, true, List, [], ◌∷◌, ◌++◌, Option, Some, None, fold, option_map, refl}
use Rattle.std.specs.Option.{is_some}
use Rattle.collectors.specs.Reductions.{first, earlier, reduce_add}

pub some-image : {T C : Type 0} (content : T → C) (o : Option T) → is_some o ≡ true → is_some (option_map content o) ≡ true
some-image content None h = h
some-image content (Some x) h = refl

none-is-none : {C : Type 0} (o : Option C) → o ≡ None → is_some o ≡ true → ⊥
none-is-none None is h = absurd cc
none-is-none (Some x) is h = absurd cc

pub first-more : {C : Type 0} (l more : List C) (o : Option C) → is_some o ≡ true → o ≡ fold (reduce_add earlier) None l → first (l ++ more) ≡ first l
first-more [] more o some made = absurd (none-is-none o made some)
first-more (x ∷ l) more o some made = refl
