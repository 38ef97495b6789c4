-- How the process of a run ends, of one file or of a batch.
use Rattle.std.specs.Prelude.{◌≡◌, ℕ, List}
use Rattle.sp_ids.specs.Exit.{exit_code}
use Rattle.sp_ids.specs.declared.outcomes.Status.{Status}
use Rattle.sp_ports.specs.Device.{CountHasNotFallen, Device, IsUntouched, WroteAsFar}
use Rattle.btf_tool.specs.Jobs.{GavePrefix, OfReading}
use Rattle.btf_tool.specs.Runs.{Run}

-- The number of a status that says what came of the run, where each status says so, and which has to come.
pub record EndsBy (Says Completes : Status → Type 0) (r : Run) (number : ℕ) : Type 0 where
  pub status : Status
  pub says : Says status
  pub complete : Completes status
  -- no device's count of failures falls
  pub input_count : CountHasNotFallen r.input
  pub out_count : CountHasNotFallen r.out
  pub err_count : CountHasNotFallen r.err
  -- what the input has left is the end of what it had, and at most one byte past its limit was taken
  pub gave : OfReading r.input GavePrefix
  pub number_is : number ≡ exit_code status

-- The number of a run that has no words: it is refused with this status for that, and only tells so by this line.
pub record EndsUntried (status : Status) (told : List ℕ) (input out err : Device)
    (number : ℕ) : Type 0 where
  pub line : WroteAsFar err told
  pub not_read : IsUntouched input
  pub nothing_written : IsUntouched out
  pub number_is : number ≡ exit_code status
