-- Pairs that a caller gives, from which a search begins.
use Rattle.std.specs.Prelude.{◌≡◌, ◌≢◌, ℕ, ◌<◌, Bool, true, false, IfErr, IfOk, List, Result, length, slice_index}
use Rattle.bip_defs.specs.Matching.{Covers, cols_of, rows_of}
use Rattle.bip_defs.specs.Matrix.{IsEntry, Matrix, Place, cols}
use Rattle.bip_graph.specs.Answers.{IsMaximumOrLeast}
use Rattle.bip_graph.specs.Matching.{IsMatchingOf, Pairing, none}
use Rattle.blocktri.specs.Answers.{AreColumnsOf, AreRowsOf, Fills}
use Rattle.blocktri.specs.Compressed.{CompressedLists, HasMatrix, IsRoom, column_count, row_count}
use Rattle.blocktri.specs.declared.pairs_refusals.PairsRefusal.{PairsRefusal}
use Rattle.blocktri.specs.declared.pairs_refusals.PairsRefusal.TheVariants.{BadPair, Columns, Lengths}
use Rattle.sp_pattern.specs.ColumnErrors.{IsColumnsError}

-- the column has no row, or an entry of its own that no column before it has
pub record IsRightPair (a : Matrix) (xs : List ℕ) (c : ℕ) : Type 0 where
  pub entry : slice_index xs c ≢ none → IsEntry a (slice_index xs c) c
  pub once : (d : ℕ) → d < c → slice_index xs d ≡ slice_index xs c → slice_index xs c ≡ none

-- and so with all columns before one
abbrev pub AreRightPairs : Matrix → List ℕ → ℕ → Type 0
AreRightPairs a xs n = (c : ℕ) → c < n → IsRightPair a xs c

-- the first column that is not right
pub record IsBadPair (a : Matrix) (xs : List ℕ) (c : ℕ) : Type 0 where
  pub within : c < cols a
  pub before : AreRightPairs a xs c
  pub wrong : ¬ IsRightPair a xs c

-- the matching that the list is
pub record IsGivenIn (a : Matrix) (xs : List ℕ) (m : Pairing) : Type 0 where
  pub matching : IsMatchingOf a m
  pub right : AreRightPairs a xs (cols a)
  pub rows_are : AreRowsOf m.pairs xs

-- the rows that are matched, or the columns
abbrev pub lists_matched : Bool → List Place → List ℕ
lists_matched true m = rows_of m
lists_matched false m = cols_of m

-- a list to be read has a row for each column, and one to be written room for a column of each row
pub record HavePairsRoom (l : CompressedLists) (row_of_column column_of_row : List ℕ)
    : Type 0 where
  pub rows_are : length row_of_column ≡ column_count l
  pub columns_are : IsRoom (row_count l) column_of_row

-- a maximum matching of so many pairs, or the least one where that is asked for, from a list of
-- pairs that were right: one that is not the least leaves nothing unmatched that was matched
pub record TellsMatchingFrom (a : Matrix) (least : Bool) (size : ℕ) (old_rows rows old_columns
    columns : List ℕ) : Type 0 where
  pub right : AreRightPairs a old_rows (cols a)
  pub start : List Place
  pub start_is : AreRowsOf start old_rows
  pub pairs : List Place
  pub are_pairs : IsMaximumOrLeast a least pairs
  pub size_is : size ≡ length pairs
  pub covered : least ≡ false → Covers start pairs
  pub rows_are : Fills old_rows rows (AreRowsOf pairs rows)
  pub columns_are : Fills old_columns columns (AreColumnsOf pairs columns)

-- a list has not the right length, where `Fit` is that all have it; else the lists of the matrix are
-- at fault, or the memory; else the first pair that is not right
abbrev pub IsPairsRefusal : Type 0 → CompressedLists → List ℕ → PairsRefusal → Type 0
IsPairsRefusal Fit l xs Lengths = ¬ Fit
IsPairsRefusal Fit l xs (Columns error) = Fit × IsColumnsError l.others l.starts l.ids error
IsPairsRefusal Fit l xs (BadPair c) = Fit × HasMatrix l (λ a. IsBadPair a xs c)

-- a refusal has its cause, and an answer comes only where all lengths are right
pub record RefusesPairsRightly {S : Type 0} (Fit : Type 0) (l : CompressedLists) (xs : List ℕ)
    (result : Result S PairsRefusal) : Type 0 where
  pub fit : IfOk result (λ s. Fit)
  pub cause : IfErr result (IsPairsRefusal Fit l xs)
