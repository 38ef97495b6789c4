-- What is told of a matrix that is given.
use Rattle.std.specs.Prelude.{◌≡◌, ◌≢◌, ◌↔◌, ℕ, Bool, false, ◌<◌, ◌≤◌, List, length, slice_index}
use Rattle.bip_defs.specs.Blocks.{Block}
use Rattle.bip_defs.specs.Lists.{Among}
use Rattle.bip_defs.specs.Matching.{IsRank, transposed_places}
use Rattle.bip_defs.specs.Matrix.{Matrix, Place}
use Rattle.bip_defs.specs.Parts.{ArePartsOf, Parts}
use Rattle.bip_graph.specs.Answers.{IsMaximumOrLeast}
use Rattle.bip_graph.specs.Matching.{none}
use Rattle.bip_graph.specs.Orders.{rows_before}
use Rattle.blocktri.specs.Compressed.{CompressedLists, IsRoom, column_count, row_count}
use Rattle.blocktri.specs.Diagonal.{KeepsDiagonal}
use Rattle.blocktri.specs.declared.sizes.Sizes.{Sizes}

-- a list keeps its length, and where it is wanted P holds of what stands in it
pub record Fills {X : Type 0} (old new : List X) (P : Type 0) : Type 0 where
  pub long : length new ≡ length old
  pub holds : length old ≢ 0 → P

-- the list has, for each column, the row of its pair, or what stands for none
abbrev pub AreRowsOf : List Place → List ℕ → Type 0
AreRowsOf m xs = (r c : ℕ) → Among (r, c) m
    ↔ ((c < length xs) × (slice_index xs c ≡ r) × (r ≢ none))

-- the list has, for each row, the column of its pair, or what stands for none
abbrev pub AreColumnsOf : List Place → List ℕ → Type 0
AreColumnsOf m xs = AreRowsOf (transposed_places m) xs

-- a maximum matching of so many pairs, or the least one where that is asked for; one that is not
-- the least keeps a full diagonal
pub record TellsMatching (a : Matrix) (least : Bool) (size : ℕ) (old_rows rows old_columns
    columns : List ℕ) : Type 0 where
  pub pairs : List Place
  pub are_pairs : IsMaximumOrLeast a least pairs
  pub size_is : size ≡ length pairs
  pub diagonal : least ≡ false → KeepsDiagonal a pairs
  pub rows_are : Fills old_rows rows (AreRowsOf pairs rows)
  pub columns_are : Fills old_columns columns (AreColumnsOf pairs columns)

-- each block's start, and behind them the number of square rows; what stands farther on stays
pub record AreBlockStarts (blocks : List Block) (old new : List ℕ) : Type 0 where
  pub long : length new ≡ length old
  pub starts : (i : ℕ) → i ≤ length blocks → slice_index new i ≡ rows_before blocks i
  pub others : (i : ℕ) → length blocks < i → slice_index new i ≡ slice_index old i

-- the sizes of the parts
pub record ArePartSizes (p : Parts) (s : Sizes) : Type 0 where
  pub horizontal_rows : s.horizontal_rows ≡ length p.horizontal_rows
  pub horizontal_columns : s.horizontal_columns ≡ length p.horizontal_cols
  pub square : s.square ≡ length p.square_rows
  pub vertical_rows : s.vertical_rows ≡ length p.vertical_rows
  pub vertical_columns : s.vertical_columns ≡ length p.vertical_cols

-- the rank and the sizes of the parts of the matrix
pub record TellsSizes (a : Matrix) (s : Sizes) : Type 0 where
  pub rank : IsRank a s.rank
  pub parts : Parts
  pub are_parts : ArePartsOf a parts
  pub sizes : ArePartSizes parts s

-- the lists to be written have room for a row of each column and for a column of each row
pub record HaveMatesRoom (l : CompressedLists) (row_of_column column_of_row : List ℕ)
    : Type 0 where
  pub rows_are : IsRoom (column_count l) row_of_column
  pub columns_are : IsRoom (row_count l) column_of_row
