-- What a function or a record of a caller's own says of itself, under one name.
pub use Rattle.std.specs.Prelude.{codes, int_lt}
pub use Rattle.std.specs.List.{starts_with}
pub use Rattle.spliterator.specs.Words.{bytes_eq, ⊤, string_bytes, int_eq, int_cmp, nat_cmp, slice_cmp}
pub use Rattle.spliterator.specs.Words.{IsI64, int_eq-decides, int_cmp-total, int_cmp-ties, bytes_eq-decides, bytes_cmp-total, bytes_cmp-ties}
pub use Rattle.spliterator.specs.Words.{both, by_first, both-decides, by_first-total, by_first-ties}
pub use Rattle.stream_functions.specs.Pieces.{piece, pieces, number_in, number_or}
pub use Rattle.stages.specs.Products.{wrapped_product}
pub use Rattle.stages.specs.Wrapping.{wrapped, wrapped-value, wrapped_sum}
