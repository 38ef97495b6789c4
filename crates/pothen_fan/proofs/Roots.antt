-- Lists of the unmatched columns that have entries.
use Rattle.std.proofs.Common.{ℕ, List}
use Rattle.bip_defs.specs.Lists.{Lists}
use Rattle.bip_defs.specs.Matrix.{Matrix, Place}
use Rattle.bip_defs.proofs.Sets.{entry_col}
use Rattle.path_search.specs.Roots.{IsRoot}
use Rattle.pothen_fan.specs.Roots.{HoldRoots}

pub roots_hold : (a : Matrix) (m : List Place) (xs : List ℕ) → Lists (IsRoot a m) xs → HoldRoots a m xs
roots_hold a m xs l = record { in_range = λ c h. let root = l.sound c h in entry_col a root.entry.0 c root.entry.1; complete = λ c root. l.complete c root }
