-- What a record of a caller's own says of itself, under one name.
pub use Rattle.std.specs.Prelude.{bytes_eq, ⊤}
pub use Rattle.std.specs.String.{string_bytes}
pub use Rattle.std.specs.Ordering.{int_eq, int_cmp, nat_cmp}
pub use Rattle.std.specs.Cmp.Lexicographic.{slice_cmp}
pub use Rattle.spliterator.specs.Values.{IsI64, int_eq-decides, int_cmp-total, int_cmp-ties, bytes_eq-decides, bytes_cmp-total, bytes_cmp-ties}
pub use Rattle.spliterator.specs.Pairs.{both, by_first, both-decides, by_first-total, by_first-ties}
