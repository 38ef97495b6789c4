-- Columns whose row numbers rise.
use Rattle.std.specs.Prelude.{ℕ, ◌+◌, ◌<◌, List, length}
use Rattle.bip_defs.specs.Lists.{IsRising}
use Rattle.bip_defs.specs.Pieces.{piece}
use Rattle.sp_pattern.specs.Columns.{AreColumns}

-- each row number of a column is greater than the one before it
abbrev pub HaveRisingRows : List ℕ → List ℕ → Type 0
HaveRisingRows starts ids = (c : ℕ) → c + 1 < length starts → IsRising (piece starts ids c)

pub record AreRisingColumns (rows : ℕ) (starts ids : List ℕ) : Type 0 where
  pub columns : AreColumns rows starts ids
  pub rising : HaveRisingRows starts ids
