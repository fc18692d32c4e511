-- How a terminal operation may run.
use Rattle.std.specs.Prelude.{ℕ, ◌<◌, ◌≤◌, ◌^◌, Result, Ok, Err}
use Rattle.parallel_streams.specs.declared.run.StreamError.{StreamError}
use Rattle.parallel_streams.specs.declared.run.StreamError.TheVariants.{NoMemory, BadWorkers, BadTarget}

-- 1 to 64 workers
abbrev pub HasLawfulWorkers : ℕ → Type 0
HasLawfulWorkers workers = (1 ≤ workers) × (workers ≤ 64)

-- 1 to 64 workers, and a target of at most 2^62
abbrev pub IsLawfulRun : ℕ → ℕ → Type 0
IsLawfulRun workers target = HasLawfulWorkers workers × (target ≤ 2 ^ 62)

-- unlawful workers are answered by BadWorkers, a target above the bound under lawful workers by BadTarget, and lawful settings by neither
abbrev pub AnswersUnder : {V : Type 0} → ℕ → ℕ → Result V StreamError → Type 0
AnswersUnder workers target (Ok v) = IsLawfulRun workers target
AnswersUnder workers target (Err NoMemory) = IsLawfulRun workers target
AnswersUnder workers target (Err BadWorkers) = ¬ HasLawfulWorkers workers
AnswersUnder workers target (Err BadTarget) = HasLawfulWorkers workers × (2 ^ 62 < target)
