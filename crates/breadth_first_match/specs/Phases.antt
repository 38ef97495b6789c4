-- How a phase ends.
use Rattle.std.specs.Bool.{OnFalse}
use Rattle.std.specs.Prelude.{◌↔◌, ◌<◌, Bool, IsTrue, List, length}
use Rattle.bip_defs.specs.Matrix.{Matrix}
use Rattle.bip_defs.specs.Parts.{MarkHorizontalRows}
use Rattle.bip_graph.specs.Matching.{Pairing}
use Rattle.path_search.specs.Growth.{GrowsUnlessMaximum}

-- it tells whether the matching has grown; where it has not, the matching was maximum, and the marked
-- rows are the horizontal rows
pub record EndsPhase (a : Matrix) (before after : Pairing) (row_marks : List Bool)
    (grew : Bool) : Type 0 where
  pub grown : IsTrue grew ↔ (length before.pairs < length after.pairs)
  pub maximum : GrowsUnlessMaximum a before after
  pub marks : OnFalse grew (MarkHorizontalRows a row_marks)
