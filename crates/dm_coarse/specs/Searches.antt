-- What a search from one side tells.
use Rattle.std.specs.Prelude.{Bool, Option}
use Rattle.std.specs.Global.{Vec}
use Rattle.bip_defs.specs.Matrix.{Matrix}
use Rattle.bip_defs.specs.Parts.{MarkHorizontalCols, MarkVerticalRows}
use Rattle.bip_graph.specs.Matching.{IsIfMaximum, Pairing}

-- where the matching is maximum, marks of the horizontal columns
abbrev pub AreColsIfMaximum : Matrix → Pairing → Option (Vec Bool) → Type 0
AreColsIfMaximum a m o = IsIfMaximum a m.pairs (λ (v : Vec Bool). MarkHorizontalCols a v.items) o

-- and of the vertical rows
abbrev pub AreRowsIfMaximum : Matrix → Pairing → Option (Vec Bool) → Type 0
AreRowsIfMaximum a m o = IsIfMaximum a m.pairs (λ (v : Vec Bool). MarkVerticalRows a v.items) o
