-- The number that a run's process ends with.
use Rattle.std.specs.Prelude.{ℕ}
use Rattle.std.specs.declared.io.ErrorKind.{ErrorKind}
use Rattle.sp_ports.specs.Device.{Device}
use Rattle.btf_tool.specs.Ends.{EndsBy, EndsUntried}
use Rattle.btf_tool.specs.Refusals.{want_of_words}
use Rattle.btf_tool.specs.Runs.{Run}
use Rattle.batch_core.specs.BatchRefusals.{line_of, refusal_without_words, status_of}
use Rattle.batch_core.specs.BatchRuns.{Completes, Says}

-- the number of a status that tells what came of the run
abbrev pub EndsWith : Run → ℕ → Type 0
EndsWith r = EndsBy (Says r) (Completes r) r

-- the number of a run that has no words
abbrev pub EndsWithoutWords : ErrorKind → Device → Device → Device → ℕ → Type 0
EndsWithoutWords kind = EndsUntried (status_of (refusal_without_words (want_of_words kind)))
    (line_of (refusal_without_words (want_of_words kind)))
