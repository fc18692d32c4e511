-- Why a map with no merge function was not made.
use Rattle.std.specs.Prelude.{ℕ, ◌<◌, ◌^◌, Result, Ok, Err}
use Rattle.parallel_streams.specs.declared.run.StreamError.{StreamError}
use Rattle.parallel_streams.specs.declared.run.StreamError.TheVariants.{NoMemory as no_memory, BadWorkers as bad_workers, BadTarget as bad_target}
use Rattle.parallel_streams.specs.declared.run.MapError.{MapError}
use Rattle.parallel_streams.specs.declared.run.MapError.TheVariants.{NoMemory, BadWorkers, DuplicateKey, BadTarget}
use Rattle.parallel_streams.specs.Runs.{HasLawfulWorkers, IsLawfulRun}

-- the error of a stream, as one of a map
abbrev pub map_error : {K : Type 0} → StreamError → MapError K
map_error no_memory = NoMemory
map_error bad_workers = BadWorkers
map_error bad_target = BadTarget

-- as for a stream; a repeated key is told only under lawful settings
abbrev pub MapAnswersUnder : {V K : Type 0} → ℕ → ℕ → Result V (MapError K) → Type 0
MapAnswersUnder workers target (Ok v) = IsLawfulRun workers target
MapAnswersUnder workers target (Err NoMemory) = IsLawfulRun workers target
MapAnswersUnder workers target (Err (DuplicateKey k)) = IsLawfulRun workers target
MapAnswersUnder workers target (Err BadWorkers) = ¬ HasLawfulWorkers workers
MapAnswersUnder workers target (Err BadTarget) = HasLawfulWorkers workers × (2 ^ 62 < target)

-- what holds of a repeated key, where one is told
abbrev pub IfDuplicate : {V K : Type 0} → Result V (MapError K) → (K → Type 0) → Type 0
IfDuplicate (Err (DuplicateKey k)) P = P k
IfDuplicate (Err NoMemory) P = Unit {0}
IfDuplicate (Err BadWorkers) P = Unit {0}
IfDuplicate (Err BadTarget) P = Unit {0}
IfDuplicate (Ok v) P = Unit {0}
