-- Compressed columns with a value for each id.
use Rattle.std.specs.Prelude.{◌≡◌, ◌≢◌, ℕ, ℤ, zero, suc, ◌+◌, ◌-◌, ◌<◌, ◌≤◌, List, [], ◌∷◌, ◌++◌, length, slice_index}
use Rattle.sp_ids.specs.Entries.{Entries, Triple}
use Rattle.sp_ids.specs.declared.triples.Field.TheVariants.{Integer}
use Rattle.sp_pattern.specs.Columns.{matrix_of}
use Rattle.bip_defs.specs.Pieces.{piece}
use Rattle.sp_pattern.specs.Weights.{IsFirstPast}

-- the triples of one column: each of its ids with its value
abbrev pub triples_in : ℕ → List ℕ → List ℤ → List Triple
triples_in c [] values = []
triples_in c (r ∷ ids) [] = []
triples_in c (r ∷ ids) (v ∷ values) =
    record { row = r; col = c; value = v } ∷ triples_in c ids values

-- the triples of the first n columns, column by column
abbrev pub triples_of_first : ℕ → List ℕ → List ℕ → List ℤ → List Triple
triples_of_first zero starts ids values = []
triples_of_first (suc c) starts ids values = triples_of_first c starts ids values
    ++ triples_in c (piece starts ids c) (piece starts values c)

-- what the lists give, in the order of the ids: the entries of a file of the field integer with
-- the same places and values
abbrev pub entries_given : ℕ → List ℕ → List ℕ → List ℤ → Entries
entries_given rows starts ids values = record {
  rows = rows;
  cols = length starts - 1;
  field = Integer;
  items = triples_of_first (length starts - 1) starts ids values;
}

-- the id at k is the first of its column that is the row's number
pub record IsFirstId (starts ids : List ℕ) (row col k : ℕ) : Type 0 where
  pub from : slice_index starts col ≤ k
  pub to : k < slice_index starts (col + 1)
  pub is : slice_index ids k ≡ row
  pub first : (h : ℕ) → slice_index starts col ≤ h → h < k → slice_index ids h ≢ row

-- the id at k is the first one of a place whose sum passes the limit; of the places whose sums do
-- this is the one of least column, and in it of least row
pub record IsFirstIdPast (rows : ℕ) (starts ids : List ℕ) (values : List ℤ)
    (k : ℕ) : Type 0 where
  pub row : ℕ
  pub col : ℕ
  pub past : IsFirstPast (entries_given rows starts ids values) (matrix_of rows starts ids) row col
  pub id : IsFirstId starts ids row col k
