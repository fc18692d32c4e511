-- The language's barriers.
use Rattle.pipeline_language.specs.declared.grammar.Barrier as barriers
use Rattle.pipeline_language.specs.declared.grammar.Barrier.TheVariants.{While}
use Rattle.pipeline_language.specs.declared.item_count.ItemCount.{ItemCount}
pub use Rattle.pipeline_meaning.specs.Stages.{barrier_list}

-- its test may be called
abbrev pub IsReady : {K : Type 0} → (K → Type 0) → barriers.Barrier K ItemCount → Type 0
IsReady ready (While part test) = ready test
IsReady ready _ = Unit {0}
