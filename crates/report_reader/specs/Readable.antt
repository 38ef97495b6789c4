-- Which reports can be read.
use Rattle.std.specs.Prelude.{◌≡◌, ℕ, ◌<◌, ◌-◌, ◌+◌, ◌^◌, List, length, Some, IfSome}
use Rattle.std.specs.List.{AllByRecursion}
use Rattle.bip_defs.specs.Blocks.{Block}
use Rattle.bip_defs.specs.ConnectedComponents.{Components}
use Rattle.bip_defs.specs.Lists.{IsRising}
use Rattle.bip_defs.specs.Matching.{cols_of, rows_of}
use Rattle.bip_defs.specs.Matrix.{Matrix, Place, cols, entry_count}
use Rattle.bip_graph.specs.Texts.{Report, Sizes, square_size}

-- a number of a text
abbrev pub IsNumber : ℕ → Type 0
IsNumber n = n < 2 ^ 32

-- a row or a column, which a text counts from 1
abbrev pub IsId : ℕ → Type 0
IsId i = i < 2 ^ 32 - 1

-- rows or columns of a part or a block
pub record IsList (ids : List ℕ) : Type 0 where
  pub ids_fit : AllByRecursion IsId ids
  pub rising : IsRising ids
  pub few : IsNumber (length ids)

-- as many rows as columns, one at least
pub record IsBlockLike (b : Block) : Type 0 where
  pub rows : IsList b.rows
  pub cols : IsList b.cols
  pub some : 0 < length b.rows
  pub same : length b.cols ≡ length b.rows

pub record AreBlocksLike (bs : List Block) : Type 0 where
  pub each : AllByRecursion IsBlockLike bs
  pub few : IsNumber (length bs)
  pub few_rows : IsNumber (square_size bs)

-- one row or column at least
pub record IsComponentLike (b : Block) : Type 0 where
  pub rows : IsList b.rows
  pub cols : IsList b.cols
  pub some : 0 < length b.rows + length b.cols

pub record AreNumberedLike (bs : List Block) : Type 0 where
  pub each : AllByRecursion IsComponentLike bs
  pub few : IsNumber (length bs)

pub record AreComponentsLike (c : Components) : Type 0 where
  pub horizontal : AreNumberedLike c.horizontal
  pub vertical : AreNumberedLike c.vertical

pub record ArePairsLike (ps : List Place) : Type 0 where
  pub rows_fit : AllByRecursion IsId (rows_of ps)
  pub cols_fit : AllByRecursion IsId (cols_of ps)
  pub rising : IsRising (cols_of ps)
  pub few : IsNumber (length ps)

-- in any order, and of any lengths
abbrev pub AreOrdersLike : List ℕ × List ℕ → Type 0
AreOrdersLike orders = AllByRecursion IsId orders.0 × AllByRecursion IsId orders.1

pub record AreSizesLike (s : Sizes) : Type 0 where
  pub rows : IsNumber s.rows
  pub cols : IsNumber s.cols
  pub entries : IsNumber s.entries

-- a report with pairs, of numbers that are read
pub record IsReadable (r : Report) : Type 0 where
  pub sizes : AreSizesLike r.sizes
  pub rank : IsNumber r.rank
  pub components : IfSome r.components AreComponentsLike
  pub horizontal_rows : IsList r.horizontal_rows
  pub horizontal_cols : IsList r.horizontal_cols
  pub blocks : AreBlocksLike r.blocks
  pub vertical_rows : IsList r.vertical_rows
  pub vertical_cols : IsList r.vertical_cols
  pub orders : IfSome r.orders AreOrdersLike
  pub pairs : List Place
  pub with_pairs : r.pairs ≡ Some pairs
  pub are_pairs : ArePairsLike pairs

-- a matrix whose numbers a text can hold
pub record FitsText (a : Matrix) : Type 0 where
  pub rows : IsNumber a.rows
  pub columns : IsNumber (cols a)
  pub entries : IsNumber (entry_count a)
