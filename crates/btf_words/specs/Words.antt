-- Which words are taken, and the job that they name.
use Rattle.std.specs.Prelude.{◌≡◌, ◌==◌, ◌≤◌, ⊤, ℕ, Bool, false, List, [], Option, Some, None, codes}
use Rattle.std.specs.Prelude.{if◌then◌else◌, option_and_then, unwrap_or}
use Rattle.std.specs.Option.{option_map_or}
use Rattle.std.specs.Str.{bytes_eq}
use Rattle.std.specs.Str.Parse.{digits_value, without_leading_plus}
use Rattle.clap.specs.Words.{Row, Text, fault_of, first_of, subcommand_of}
use Rattle.clap.specs.ValueTests.{is_unsigned_in}
use Rattle.sp_ids.specs.Limits.{max_load_seed, max_load_size, max_workers}
use Rattle.btf_words.specs.Choices.{HasWorkers, choice_with}
use Rattle.btf_words.specs.Table.{Names, btf, btf_over, latest_version}
use Rattle.btf_words.specs.declared.jobs.Engine.{Engine}
use Rattle.btf_words.specs.declared.jobs.Engine.TheVariants.{Plain, Mc21, Pf, Graft}
use Rattle.btf_words.specs.declared.jobs.Job.{Job}
use Rattle.btf_words.specs.declared.jobs.ListedPairs.{ListedPairs}
use Rattle.btf_words.specs.declared.jobs.ListedPairs.TheVariants.{Any, Least}
use Rattle.btf_words.specs.declared.jobs.ListedPairs.TheVariants as pairs
use Rattle.btf_words.specs.declared.jobs.ReportOptions.{ReportOptions}
use Rattle.btf_words.specs.declared.jobs.Version.{Version}
use Rattle.btf_words.specs.declared.jobs.Version.TheVariants.{One, Two}
use Rattle.btf_words.specs.declared.jobs.EngineChoice.{EngineChoice}
use Rattle.btf_words.specs.declared.jobs.Job.TheVariants.{Rank, Analyse, Diagonal, Check, Load, Edit, Bottleneck}

-- clap's definitions find no fault with the words
unfoldable pub AreTaken : List Text → Type 0
AreTaken words = fault_of btf words ≡ []

-- ---- what was found for an option

-- the engine of a name
abbrev pub engine_named : Text → Option Engine
engine_named name = if bytes_eq name (codes "plain") then Some Plain
    else (if bytes_eq name (codes "mc21") then Some Mc21
    else (if bytes_eq name (codes "pf") then Some Pf
    else (if bytes_eq name (codes "graft") then Some Graft else None)))

-- the engine that is given: clap takes no name but those, and has a default where none is given
abbrev pub engine_in : List Row → Engine
engine_in rows = unwrap_or (option_and_then engine_named (first_of (codes "engine") rows)) Graft

-- the flag was given
abbrev pub is_given : Text → List Row → Bool
is_given id rows = option_map_or (λ value. bytes_eq value (codes "true")) (first_of id rows) false

-- the number that a text spells, where it is one within the bounds
abbrev pub number_within : ℕ → ℕ → Text → Option ℕ
number_within low high text = if is_unsigned_in low high text
    then Some (digits_value 10 (without_leading_plus text)) else None

-- the number of an option: clap takes no text but one within the bounds, and each option is given or has a default in the
-- table of commands
abbrev pub number_in : ℕ → ℕ → Text → List Row → ℕ
number_in low high id rows = unwrap_or (option_and_then (number_within low high) (first_of id rows)) low

abbrev pub size_in : List Row → ℕ
size_in = number_in 1 max_load_size (codes "size")

abbrev pub seed_in : List Row → ℕ
seed_in = number_in 0 max_load_seed (codes "seed")

-- the engine, and how many workers search where more than one can
abbrev pub choice_in : List Row → EngineChoice
choice_in rows = choice_with (engine_in rows) (number_in 1 max_workers (codes "workers") rows)

-- the version of the report
abbrev pub version_in : List Row → Version
version_in rows = if number_in 1 latest_version (codes "report") rows == 1 then One else Two

-- the pairs of the report: with `--least` the least ones, whether `--pairs` is given or not
abbrev pub pairs_in : List Row → ListedPairs
pairs_in rows = if is_given (codes "least") rows then Least
    else (if is_given (codes "pairs") rows then Any else pairs.None)

-- what the report has
abbrev pub report_in : List Row → ReportOptions
report_in rows = record {
  version = version_in rows;
  order = is_given (codes "order") rows;
  pairs = pairs_in rows;
}

abbrev pub drops_zeros : List Row → Bool
drops_zeros = is_given (codes "drop-zeros")

-- ---- the job

-- the job of a command, by the command's name and what was found for its options, defaults included
abbrev pub job_from : Text × List Row → Option Job
job_from m = if bytes_eq m.0 (codes "rank") then Some (Rank (drops_zeros m.1))
    else (if bytes_eq m.0 (codes "analyse")
    then Some (Analyse (choice_in m.1) (report_in m.1) (drops_zeros m.1))
    else (if bytes_eq m.0 (codes "diagonal") then Some (Diagonal (drops_zeros m.1))
    else (if bytes_eq m.0 (codes "check") then Some (Check (drops_zeros m.1))
    else (if bytes_eq m.0 (codes "load")
    then Some (Load (size_in m.1) (seed_in m.1) (choice_in m.1))
    else (if bytes_eq m.0 (codes "edit") then Some Edit
    else (if bytes_eq m.0 (codes "bottleneck") then Some (Bottleneck (drops_zeros m.1))
    else None))))))

-- the job that the words name: that of the command that they enter, by clap's definitions
unfoldable pub job_of : List Text → Option Job
job_of words = option_and_then job_from (subcommand_of btf words)

-- Wherever the names of the engines lie, clap's definitions find the same faults in the words, and the same command
-- with the same options.
abbrev pub ReadsAlike : Names → List Text → Type 0
ReadsAlike names words = (fault_of (btf_over names) words ≡ fault_of btf words)
    × (subcommand_of (btf_over names) words ≡ subcommand_of btf words)

-- the matrix that a job makes and the number of its workers are within the limits
abbrev pub IsWithinLimits : Job → Type 0
IsWithinLimits (Load size seed choice) = (1 ≤ size) × (size ≤ max_load_size) × HasWorkers choice
IsWithinLimits (Analyse choice report drop_zeros) = HasWorkers choice
IsWithinLimits _ = ⊤
