-- The columns where searches begin.
use Rattle.std.specs.Prelude.{ℕ, List}
use Rattle.bip_defs.specs.Lists.{Among}
use Rattle.bip_defs.specs.Matching.{cols_of}
use Rattle.bip_defs.specs.Matrix.{IsEntry, Matrix, Place}

-- an unmatched column that has an entry
pub record IsRoot (a : Matrix) (m : List Place) (c : ℕ) : Type 0 where
  pub unmatched : ¬ Among c (cols_of m)
  pub entry : (r : ℕ) × IsEntry a r c
