-- What contracts see of a matching, and how two flat arrays store it.
use Rattle.std.specs.Prelude.{◌≡◌, ◌≢◌, ℕ, zero, suc, ◌<◌, ◌^◌, ◌==◌, if◌then◌else◌, List, [], ◌∷◌, length, slice_index, Option, IfNone, IfSome}
use Rattle.bip_defs.specs.Lists.{Among, AreDistinct, IsRising}
use Rattle.bip_defs.specs.Matching.{IsMatching, IsMaximum, cols_of, rows_of, transposed_places}
use Rattle.bip_defs.specs.Matrix.{Matrix, Place, cols}

-- the numbers of rows and columns, and the pairs, rising by column
pub record Pairing : Type 0 where
  pub rows : ℕ
  pub cols : ℕ
  pub pairs : List Place

-- the pairs have distinct rows, rise by column, and lie within the rows and columns
pub record IsPairing (m : Pairing) : Type 0 where
  pub rows_differ : AreDistinct (rows_of m.pairs)
  pub cols_rise : IsRising (cols_of m.pairs)
  pub rows_within : (r c : ℕ) → Among (r, c) m.pairs → r < m.rows
  pub cols_within : (r c : ℕ) → Among (r, c) m.pairs → c < m.cols

-- a matching of the matrix's entries, over its rows and columns
pub record IsMatchingOf (a : Matrix) (m : Pairing) : Type 0 where
  pub rows : m.rows ≡ a.rows
  pub cols : m.cols ≡ cols a
  pub matching : IsMatching a m.pairs

-- and none of its matchings is longer
pub record IsMaximumOf (a : Matrix) (m : Pairing) : Type 0 where
  pub matching : IsMatchingOf a m
  pub maximum : IsMaximum a m.pairs

-- where the matching is maximum, an answer that has P; else none
pub record IsIfMaximum (a : Matrix) (m : List Place) {A : Type 0} (P : A → Type 0) (o : Option A) : Type 0 where
  pub maximum : IfSome o (λ _. IsMaximum a m)
  pub holds : IfSome o P
  pub not_maximum : IfNone o (¬ IsMaximum a m)

-- the same matching of the transpose
abbrev pub transposed : Pairing → Pairing
transposed m = record { rows = m.cols; cols = m.rows; pairs = transposed_places m.pairs }

-- stands for no mate
abbrev pub none : ℕ
none = 4294967295

-- the pairs of an array that has the row of each column, from column k on
abbrev pub pairs_from : ℕ → List ℕ → List Place
pairs_from k [] = []
pairs_from k (r ∷ rs) = if r == none then pairs_from (suc k) rs else (r, k) ∷ pairs_from (suc k) rs

abbrev pub pairs_of : List ℕ → List Place
pairs_of mates = pairs_from zero mates

-- each mate of an array is in range of the other, and leads back
abbrev pub LeadsBack : List ℕ → List ℕ → Type 0
LeadsBack xs ys = (i : ℕ) → i < length xs → slice_index xs i ≢ none
    → (slice_index xs i < length ys) × (slice_index ys (slice_index xs i) ≡ i)

-- two arrays that store one matching of so many pairs
pub record AreMates (row_of_col col_of_row : List ℕ) (size : ℕ) : Type 0 where
  pub few_cols : length row_of_col < 2 ^ 32
  pub few_rows : length col_of_row < 2 ^ 32
  pub by_col : LeadsBack row_of_col col_of_row
  pub by_row : LeadsBack col_of_row row_of_col
  pub count : size ≡ length (pairs_of row_of_col)
