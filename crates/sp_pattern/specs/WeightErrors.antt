-- When weights are refused.
use Rattle.bip_defs.specs.Matrix.{Matrix}
use Rattle.sp_ids.specs.Entries.{Entries}
use Rattle.sp_pattern.specs.declared.weights.WeightError.{WeightError}
use Rattle.sp_pattern.specs.declared.weights.WeightError.TheVariants.{SumLimit, OutOfMemory}
use Rattle.sp_pattern.specs.Weights.{IsFirstPast}

-- an entry that is named is the first whose sum passes the limit
abbrev pub IsWeightError : Entries → Matrix → WeightError → Type 0
IsWeightError t a (SumLimit row col) = IsFirstPast t a row col
IsWeightError t a OutOfMemory = Unit {0}
