-- When the values of compressed columns are refused.
use Rattle.std.specs.Prelude.{ℕ, ℤ, List}
use Rattle.sp_pattern.specs.declared.valued_columns.ValuesError.{ValuesError}
use Rattle.sp_pattern.specs.declared.valued_columns.ValuesError.TheVariants.{SumLimit, OutOfMemory}
use Rattle.sp_pattern.specs.ValuedColumns.{IsFirstIdPast}

-- an id that is named is the first of the first place whose sum passes the limit
abbrev pub IsValuesError : ℕ → List ℕ → List ℕ → List ℤ → ValuesError → Type 0
IsValuesError rows starts ids values (SumLimit k) = IsFirstIdPast rows starts ids values k
IsValuesError rows starts ids values OutOfMemory = Unit {0}
