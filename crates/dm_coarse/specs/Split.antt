-- Which part a row is in, and the rows of each part.
use Rattle.std.specs.Prelude.{ℕ, Bool, List, map}
use Rattle.bip_defs.specs.Lists.{Lists}
use Rattle.bip_defs.specs.Matrix.{Matrix}
use Rattle.bip_defs.specs.Parts.{IsHorizontalRow, IsSquareRow, IsVerticalRow, MarkHorizontalCols, MarkVerticalRows}
use Rattle.bip_graph.specs.Matching.{IsMaximumOf, Pairing}
use Rattle.dm_coarse.specs.declared.split.ByPart.{ByPart}
use Rattle.dm_coarse.specs.declared.split.Part.{Part}
use Rattle.dm_coarse.specs.declared.split.Part.TheVariants.{Horizontal, Square, Vertical}

abbrev pub IsInPart : Matrix → ℕ → Part → Type 0
IsInPart a r Horizontal = IsHorizontalRow a r
IsInPart a r Square = IsSquareRow a r
IsInPart a r Vertical = IsVerticalRow a r

-- a maximum matching, and marks of the horizontal columns and of the vertical rows
pub record AreKnown (a : Matrix) (m : Pairing) (hcs vrs : List Bool) : Type 0 where
  pub maximum : IsMaximumOf a m
  pub horizontal : MarkHorizontalCols a hcs
  pub vertical : MarkVerticalRows a vrs

-- the rows of each part, by their numbers
pub record AreRowsByPart {F : Type 0} (number : F → ℕ) (a : Matrix) (s : ByPart F) : Type 0 where
  pub horizontal : Lists (IsHorizontalRow a) (map number s.horizontal.items)
  pub square : Lists (IsSquareRow a) (map number s.square.items)
  pub vertical : Lists (IsVerticalRow a) (map number s.vertical.items)
