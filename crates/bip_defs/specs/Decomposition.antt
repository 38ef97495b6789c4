-- All that a report says of a matrix.
use Rattle.std.specs.Prelude.{ℕ, List}
use Rattle.bip_defs.specs.Blocks.{AreBlocksOf, Block}
use Rattle.bip_defs.specs.Matching.{IsRank}
use Rattle.bip_defs.specs.Matrix.{Matrix}
use Rattle.bip_defs.specs.Parts.{ArePartsOf, Parts}

pub record Decomposition : Type 0 where
  pub rank : ℕ
  pub parts : Parts
  pub blocks : List Block

pub record IsDecompositionOf (a : Matrix) (d : Decomposition) : Type 0 where
  pub rank : IsRank a d.rank
  pub parts : ArePartsOf a d.parts
  pub blocks : AreBlocksOf a d.blocks
