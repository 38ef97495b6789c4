-- What the steps of `load` say together.
use Rattle.std.proofs.Common.{ℕ, List, Ok, Err, refl}
use Rattle.bip_defs.specs.Matrix.{Matrix}
use Rattle.btf_words.specs.declared.jobs.EngineChoice.{EngineChoice}
use Rattle.btf_words.specs.declared.jobs.Job.TheVariants.{Load}
use Rattle.btf_tool.specs.declared.answers.Answer.TheVariants.{Positive}
use Rattle.btf_tool.specs.declared.refusals.Refusal.TheVariants.{WriteFault}
use Rattle.sp_ports.specs.Device.{Device, IsUntouched, Took, TookPrefix}
use Rattle.btf_tool.specs.Runs.{JobSays}
use Rattle.btf_tool.specs.Summaries.{IsLoadMatrix, IsSummary}
use Rattle.btf_tool.proofs.Completeness.{untouched_counts}

-- the summary was written
pub load_written : (size seed : ℕ) (choice : EngineChoice) (input out : Device) (text : List ℕ) (a : Matrix) → IsUntouched input → IsLoadMatrix size seed a → IsSummary a text
    → Took out text → JobSays (Load size seed choice) input out (Ok Positive)
load_written size seed choice input out text a same matrix summary took =
    (tt, same.1, took.steady, (text, record { matrix = a; is_matrix = matrix; is_summary = summary; positive = refl }, took))

-- a write of it failed
pub load_not_written : (size seed : ℕ) (choice : EngineChoice) (input out : Device) (text : List ℕ) (a : Matrix) → IsUntouched input → IsLoadMatrix size seed a → IsSummary a text
    → TookPrefix out text → JobSays (Load size seed choice) input out (Err WriteFault)
load_not_written size seed choice input out text a same matrix summary prefix =
    (untouched_counts input same, prefix.counts, (prefix.fault, same.1, (Positive, (text, record { matrix = a; is_matrix = matrix; is_summary = summary; positive = refl }, prefix))))
