-- When compressed columns are refused.
use Rattle.std.specs.Prelude.{ℕ, ◌^◌, ◌<◌, ◌≤◌, List, length}
use Rattle.sp_pattern.specs.Columns.{AreColumns, IsBadRow, IsBadStart}
use Rattle.bip_defs.specs.Pieces.{AreStarts}
use Rattle.sp_pattern.specs.declared.columns.ColumnsError.{ColumnsError}
use Rattle.sp_pattern.specs.declared.columns.ColumnsError.TheVariants.{TooManyRows, BadStart, BadRow, OutOfMemory}

-- too many rows first, then the first start that is not right, then where the starts are right the
-- first id that is no row; memory is wanted for columns alone
abbrev pub IsColumnsError : ℕ → List ℕ → List ℕ → ColumnsError → Type 0
IsColumnsError rows starts ids TooManyRows = 2 ^ 32 ≤ rows
IsColumnsError rows starts ids (BadStart i) = (rows < 2 ^ 32) × IsBadStart starts (length ids) i
IsColumnsError rows starts ids (BadRow k) =
    (rows < 2 ^ 32) × (length starts ≤ 2 ^ 32) × (length ids < 2 ^ 32) × AreStarts starts ids
    × IsBadRow rows ids k
IsColumnsError rows starts ids OutOfMemory = AreColumns rows starts ids
