-- The number that a run's process ends with.
use Rattle.std.specs.Prelude.{ℕ}
use Rattle.std.specs.declared.io.ErrorKind.{ErrorKind}
use Rattle.sp_ports.specs.Device.{Device, IsUntouched}
use Rattle.btf_tool.specs.Ends.{EndsBy, EndsUntried}
use Rattle.btf_tool.specs.Refusals.{line_of, refusal_without_words, status_of, want_of_words}
use Rattle.btf_tool.specs.Runs.{Completes, NameMaker, Run, Says}

-- the number of a status that tells what came of the run
pub record EndsWith (r : Run) (number : ℕ) : Type 0 where
  pub ends : EndsBy (Says r) (Completes r) r number
  -- a matrix that is made is made without the input
  pub unread : NameMaker r.words → IsUntouched r.input

-- the number of a run that has no words
abbrev pub EndsWithoutWords : ErrorKind → Device → Device → Device → ℕ → Type 0
EndsWithoutWords kind = EndsUntried (status_of (refusal_without_words (want_of_words kind)))
    (line_of (refusal_without_words (want_of_words kind)))
