-- What is told of the diagonals of a matrix with values.
use Rattle.std.specs.Int.{w64}
use Rattle.std.specs.Prelude.{◌≡◌, ◌≢◌, ◌⊎◌, ℕ, ℤ, pos, Bool, FitsSigned, IsTrue, ◌+◌, ◌*◌, ◌^◌, ◌<◌, List, length, slice_index_or}
use Rattle.bip_defs.specs.Bottleneck.{IsBest}
use Rattle.bip_defs.specs.Matrix.{Place}
use Rattle.blocktri.specs.Answers.{AreRowsOf, Fills}
use Rattle.blocktri.specs.Compressed.{IsRoom, column_count, row_count}
use Rattle.blocktri.specs.Weighted.{AreValued, WeightedLists}
use Rattle.blocktri.specs.Written.{IsPut}
use Rattle.blocktri.specs.declared.bottleneck_matching.LeastWeight.{LeastWeight}
use Rattle.blocktri.specs.declared.heaviest_diagonal.Sum.{Sum}
use Rattle.integer_diagonal.specs.Heaviest.{IsHeaviestDiagonal}
use Rattle.integer_diagonal.specs.Prices.{AreFair}
use Rattle.sp_pattern.specs.Weights.{Weighing, weight_at}

-- the number of two words
abbrev pub number_of : Sum → ℕ
number_of s = s.low + 2 ^ 64 * s.high

-- each price fits 64 bits
abbrev pub AreNarrow : List ℤ → Type 0
AreNarrow prices = (i : ℕ) → i < length prices → FitsSigned w64 (slice_index_or prices i (pos 0))

-- one of the two lists of prices is wanted at least
abbrev pub WantsPrices : List ℤ → List ℤ → Type 0
WantsPrices row_prices column_prices = (length row_prices ≢ 0) ⊎ (length column_prices ≢ 0)

-- a heaviest diagonal with fair prices and the sum: the lists that are wanted have the row of each
-- column's pair, the prices of the rows and those of the columns, and where one of these is wanted,
-- all prices fit 64 bits
pub record TellsHeaviest (w : Weighing) (sum : Sum) (old_rows rows : List ℕ)
    (old_row_prices row_prices old_column_prices column_prices : List ℤ) : Type 0 where
  pub pairs : List Place
  pub u : List ℤ
  pub v : List ℤ
  pub heaviest : IsHeaviestDiagonal w pairs u v (pos (number_of sum))
  pub narrow : WantsPrices old_row_prices old_column_prices → AreNarrow u × AreNarrow v
  pub rows_are : Fills old_rows rows (AreRowsOf pairs rows)
  pub row_prices_are : Fills old_row_prices row_prices (row_prices ≡ u)
  pub column_prices_are : Fills old_column_prices column_prices (column_prices ≡ v)

-- a heaviest diagonal with fair prices, which fit where that is asked for
pub record IsDiagonalFound (asks : Bool) (w : Weighing) (m : List Place) (u v : List ℤ)
    (sum : ℤ) : Type 0 where
  pub heaviest : IsHeaviestDiagonal w m u v sum
  pub narrow : IsTrue asks → AreNarrow u × AreNarrow v

-- a heaviest diagonal, none of whose fair prices all fit 64 bits
pub record HasNoNarrowPrices (w : Weighing) : Type 0 where
  pub pairs : List Place
  pub row_prices : List ℤ
  pub column_prices : List ℤ
  pub sum : ℤ
  pub heaviest : IsHeaviestDiagonal w pairs row_prices column_prices sum
  pub none : (u v : List ℤ) → AreFair w pairs u v → AreNarrow u → AreNarrow v → ⊥

-- and prices are wanted
abbrev pub HasNoWantedPrices : List ℤ → List ℤ → Weighing → Type 0
HasNoWantedPrices row_prices column_prices w =
    WantsPrices row_prices column_prices × HasNoNarrowPrices w

-- a perfect matching whose least weight is greatest: where they are wanted, the one list has the
-- row of each column's pair, and the other begins with the columns that show it; what stands
-- farther on stays
pub record TellsBottleneck (w : Weighing) (found : LeastWeight)
    (old_rows rows old_columns columns : List ℕ) : Type 0 where
  pub pairs : List Place
  pub hall : List ℕ
  pub best : IsBest w.matrix (weight_at w) pairs found.weight hall
  pub rows_are : Fills old_rows rows (AreRowsOf pairs rows)
  pub count : found.columns ≡ length hall
  pub columns_are : Fills old_columns columns (IsPut 0 hall old_columns columns)

-- a value for each id, and where they are wanted, to be written a row for each column, and a price
-- for each row and column
pub record HaveHeaviestLengths (m : WeightedLists) (row_of_column : List ℕ)
    (row_prices column_prices : List ℤ) : Type 0 where
  pub values_are : AreValued m
  pub rows_are : IsRoom (column_count m.lists) row_of_column
  pub row_prices_are : IsRoom (row_count m.lists) row_prices
  pub column_prices_are : IsRoom (column_count m.lists) column_prices

-- a value for each id, and where they are wanted, to be written a row for each column, and room for
-- each column
pub record HaveBottleneckLengths (m : WeightedLists)
    (row_of_column columns : List ℕ) : Type 0 where
  pub values_are : AreValued m
  pub rows_are : IsRoom (column_count m.lists) row_of_column
  pub columns_are : IsRoom (column_count m.lists) columns
