-- How flat arrays hold a list of components: how many rows and how many columns each has, the rows of all one after another, and the columns.
use Rattle.std.specs.Prelude.{◌≡◌, ℕ, List, [], ◌∷◌, length, map, take, drop}
use Rattle.bip_defs.specs.Blocks.{Block, all_cols, all_rows}

abbrev pub height : Block → ℕ
height b = length b.rows

abbrev pub width : Block → ℕ
width b = length b.cols

-- the components of so many rows and so many columns each
abbrev pub shown : List ℕ → List ℕ → List ℕ → List ℕ → List Block
shown [] widths rows cols = []
shown (h ∷ heights) [] rows cols = []
shown (h ∷ heights) (w ∷ widths) rows cols =
    record { rows = take h rows; cols = take w cols } ∷ shown heights widths (drop h rows) (drop w cols)

pub record AreArraysOf (heights widths rows cols : List ℕ) (bs : List Block) : Type 0 where
  pub heights_are : heights ≡ map height bs
  pub widths_are : widths ≡ map width bs
  pub rows_are : rows ≡ all_rows bs
  pub cols_are : cols ≡ all_cols bs
