-- Where the parts of a list end.
use Rattle.std.specs.Prelude.{ℕ, List}
use Rattle.parallel_streams.specs.declared.places.Places.{Places}

abbrev pub ends_of : Places → List ℕ
ends_of places = places.ends.items
