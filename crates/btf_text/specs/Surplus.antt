-- The Hall count of a decomposition.
use Rattle.std.specs.Prelude.{◌≡◌, ◌+◌, length}
use Rattle.bip_defs.specs.Decomposition.{Decomposition}
use Rattle.bip_defs.specs.Matrix.{Matrix, cols}

-- the horizontal columns are more than their rows by as many as the rank leaves columns unmatched
abbrev pub HasSurplus : Matrix → Decomposition → Type 0
HasSurplus a d = length d.parts.horizontal_cols + d.rank ≡ cols a + length d.parts.horizontal_rows
