-- Entries that are read before their turn.
use Rattle.std.specs.Prelude.{◌≡◌, All, List, slice_index}
use Rattle.bip_defs.specs.Matrix.{Matrix, Place, column, row_list}

-- each has the first row of its column
abbrev pub AreFirstRows : Matrix → List Place → Type 0
AreFirstRows a ps = All (λ (p : Place). p.0 ≡ slice_index (column a p.1) 0) ps

-- each has the first column of its row
abbrev pub AreFirstCols : Matrix → List Place → Type 0
AreFirstCols a ps = All (λ (p : Place). p.1 ≡ slice_index (row_list a p.0) 0) ps
