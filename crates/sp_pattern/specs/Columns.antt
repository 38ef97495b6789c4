-- Compressed columns: a start for each column and one flat list of row numbers, which stand in any
-- order within a column and may stand there several times.
use Rattle.std.specs.Prelude.{◌≡◌, ℕ, zero, suc, ◌+◌, ◌-◌, ◌^◌, ◌<◌, ◌≤◌, List, [], ◌++◌, filter, length, map, nat_eq, slice_index}
use Rattle.std.specs.List.{list_any}
use Rattle.bip_defs.specs.Lists.{Among, Lists}
use Rattle.bip_defs.specs.Matrix.{Matrix, Place, upto}
use Rattle.bip_defs.specs.Pieces.{AreStarts, piece}
use Rattle.sp_pattern.specs.Pairs.{AreBelow}

-- the lists are compressed columns of a matrix with so many rows
pub record AreColumns (rows : ℕ) (starts ids : List ℕ) : Type 0 where
  pub few_rows : rows < 2 ^ 32
  pub few_starts : length starts ≤ 2 ^ 32
  pub few_ids : length ids < 2 ^ 32
  pub starts_are : AreStarts starts ids
  pub inside : AreBelow rows (length ids) ids

-- the places of the first n columns, column by column
abbrev pub places_of_first : ℕ → List ℕ → List ℕ → List Place
places_of_first zero starts ids = []
places_of_first (suc c) starts ids =
    places_of_first c starts ids ++ map (λ (r : ℕ). (r, c)) (piece starts ids c)

-- the places that the lists give, in the order of the ids
abbrev pub places_of : List ℕ → List ℕ → List Place
places_of starts ids = places_of_first (length starts - 1) starts ids

-- the rows that a column's ids give, rising
abbrev pub rows_given : ℕ → List ℕ → List ℕ → ℕ → List ℕ
rows_given rows starts ids c = filter (λ r. list_any (nat_eq r) (piece starts ids c)) (upto rows)

-- the matrix of compressed columns
abbrev pub matrix_of : ℕ → List ℕ → List ℕ → Matrix
matrix_of rows starts ids = record {
  rows = rows;
  columns = map (rows_given rows starts ids) (upto (length starts - 1));
}

-- the start at i is as it has to be, before so many ids: there are at most 2^32 starts, the first
-- is there and is 0, none is less than the one before it, and the last is the number of the ids,
-- which is less than 2^32
pub record IsRightStart (starts : List ℕ) (count i : ℕ) : Type 0 where
  pub few : i < 2 ^ 32
  pub there : 0 < length starts
  pub first : i ≡ 0 → slice_index starts i ≡ 0
  pub rises : (h : ℕ) → h + 1 ≡ i → slice_index starts h ≤ slice_index starts i
  pub last : i + 1 ≡ length starts → (slice_index starts i ≡ count) × (count < 2 ^ 32)

abbrev pub AreRightStarts : List ℕ → ℕ → ℕ → Type 0
AreRightStarts starts count n = (i : ℕ) → i < n → IsRightStart starts count i

-- the first start that is not right; of no starts the first one
pub record IsBadStart (starts : List ℕ) (count i : ℕ) : Type 0 where
  pub within : i ≤ length starts - 1
  pub before : AreRightStarts starts count i
  pub wrong : ¬ IsRightStart starts count i

-- the first id that is not the number of a row
pub record IsBadRow (rows : ℕ) (ids : List ℕ) (k : ℕ) : Type 0 where
  pub within : k < length ids
  pub before : AreBelow rows k ids
  pub wrong : rows ≤ slice_index ids k

-- the list has grown by the rising list of a column's numbers
pub record GrowsBy (column old new : List ℕ) : Type 0 where
  pub added : List ℕ
  pub lists : Lists (λ r. Among r column) added
  pub joined : new ≡ old ++ added
  pub few : length added ≤ length column

-- no number of the list is less than the one before it, from one place to before another
abbrev pub IsNotFalling : List ℕ → ℕ → ℕ → Type 0
IsNotFalling xs from to =
    (k : ℕ) → from ≤ k → k + 1 < to → slice_index xs k ≤ slice_index xs (k + 1)

-- the numbers from one place to before another fit 32 bits
abbrev pub AreSmall : List ℕ → ℕ → ℕ → Type 0
AreSmall xs from to = (k : ℕ) → from ≤ k → k < to → slice_index xs k < 2 ^ 32
