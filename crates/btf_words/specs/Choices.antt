-- What the words may choose: an engine with its workers, the version of a report, and its pairs.
use Rattle.std.specs.Prelude.{◌≤◌, ⊤, ℕ, Bool, true, false}
use Rattle.sp_ids.specs.Limits.{max_workers}
use Rattle.btf_words.specs.declared.jobs.Engine.{Engine}
use Rattle.btf_words.specs.declared.jobs.Engine.TheVariants as engines
use Rattle.btf_words.specs.declared.jobs.EngineChoice.{EngineChoice}
use Rattle.btf_words.specs.declared.jobs.EngineChoice.TheVariants.{Plain, Mc21, Pf, Graft}
use Rattle.btf_words.specs.declared.jobs.ListedPairs.{ListedPairs}
use Rattle.btf_words.specs.declared.jobs.ListedPairs.TheVariants.{None, Any, Least}
use Rattle.btf_words.specs.declared.jobs.Version.{Version}
use Rattle.btf_words.specs.declared.jobs.Version.TheVariants.{One, Two}

-- the engine, and the number of workers where more than one can search
abbrev pub choice_with : Engine → ℕ → EngineChoice
choice_with engines.Plain workers = Plain
choice_with engines.Mc21 workers = Mc21
choice_with engines.Pf workers = Pf
choice_with engines.Graft workers = Graft workers

-- workers, where the engine has them, are within their limits
abbrev pub HasWorkers : EngineChoice → Type 0
HasWorkers (Graft workers) = (1 ≤ workers) × (workers ≤ max_workers)
HasWorkers _ = ⊤

-- the number that stands for a version
abbrev pub number_of : Version → ℕ
number_of One = 1
number_of Two = 2

abbrev pub are_listed : ListedPairs → Bool
are_listed None = false
are_listed Any = true
are_listed Least = true

abbrev pub are_least : ListedPairs → Bool
are_least None = false
are_least Any = false
are_least Least = true
