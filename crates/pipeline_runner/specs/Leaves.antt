-- How many items the leaves of a run are cut from.
use Rattle.std.specs.Prelude.{ℕ, length}
use Rattle.pipeline_language.specs.declared.pipeline.Pipeline.{Pipeline}
use Rattle.pipeline_language.specs.declared.pipeline.Pipeline.TheVariants.{Numbers, Texts}
use Rattle.pipeline_value.specs.Typed.{source_numbers}

-- how many items a pipeline's source has
abbrev pub source_count : Pipeline → ℕ
source_count (Numbers source body) = length (source_numbers source)
source_count (Texts texts body) = length texts.items
