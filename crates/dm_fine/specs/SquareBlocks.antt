-- The fine blocks of a square part, as they are answered.
use Rattle.std.specs.Prelude.{ℕ, List, [], ◌∷◌}
use Rattle.bip_defs.specs.Blocks.{AreBlocksOf}
use Rattle.bip_defs.specs.Matrix.{Matrix}
use Rattle.dm_fine.specs.declared.square.SquareBlocks.{SquareBlocks}
use Rattle.dm_fine.specs.declared.square.SquareBlocks.TheVariants.{One, Several}

-- the block of these rows and columns is the only one; or these are all the blocks
abbrev pub AreSquareBlocks : Matrix → List ℕ → List ℕ → SquareBlocks → Type 0
AreSquareBlocks a rows cols One = AreBlocksOf a (record { rows = rows; cols = cols } ∷ [])
AreSquareBlocks a rows cols (Several blocks) = AreBlocksOf a blocks
