-- The number with which the program ends.
use Rattle.std.specs.Prelude.{ℕ}
use Rattle.sp_ids.specs.declared.outcomes.Status.{Status}
use Rattle.sp_ids.specs.declared.outcomes.Status.TheVariants.{Ok, Negative, Usage, Malformed, Limit, ReadFault, WriteFault, OutOfMemory, NeedsInteger}

abbrev pub exit_code : Status → ℕ
exit_code Ok = 0
exit_code Negative = 1
exit_code Usage = 2
exit_code Malformed = 3
exit_code Limit = 4
exit_code ReadFault = 5
exit_code WriteFault = 6
exit_code OutOfMemory = 7
exit_code NeedsInteger = 8
