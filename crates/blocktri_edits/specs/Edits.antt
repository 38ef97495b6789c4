-- Edits that a caller has as lists, and the ranks after them.
use Rattle.std.specs.Prelude.{◌≡◌, ℕ, zero, ◌+◌, ◌<◌, ℤ, pos, List, length, map, slice_index, slice_index_or, take}
use Rattle.bip_defs.specs.EditedMatrix.{Clear, Edit, Set, edited}
use Rattle.bip_defs.specs.Matching.{IsRank}
use Rattle.bip_defs.specs.Matrix.{Matrix, Place, upto}

-- the row and the column of each edit's place, and a number that is 0 where the edit clears the
-- entry there
pub record EditLists : Type 0 where
  pub rows : List ℕ
  pub columns : List ℕ
  pub sets : List ℤ

-- the lists have one length, and there is a rank for each edit
pub record HaveOneLength (e : EditLists) (ranks : List ℕ) : Type 0 where
  pub rows_are : length e.rows ≡ length e.sets
  pub columns_are : length e.columns ≡ length e.sets
  pub ranks_are : length ranks ≡ length e.sets

abbrev pub place_at : EditLists → ℕ → Place
place_at e i = (slice_index e.rows i, slice_index e.columns i)

-- an edit by its number: 0 clears the entry at the place, any other sets it
abbrev pub edit_by : ℤ → Place → Edit
edit_by (pos zero) p = Clear p
edit_by n p = Set p

abbrev pub edit_at : EditLists → ℕ → Edit
edit_at e i = edit_by (slice_index_or e.sets i (pos 0)) (place_at e i)

-- the edits, in their order
abbrev pub edit_list : EditLists → List Edit
edit_list e = map (edit_at e) (upto (length e.sets))

-- each rank is that of the matrix after the edits up to its own
abbrev pub AreRanksAfter : Matrix → List Edit → List ℕ → Type 0
AreRanksAfter a edits ranks = (i : ℕ) → i < length edits
    → IsRank (edited a (take (i + 1) edits)) (slice_index ranks i)

-- the place is in a matrix of so many rows and columns
abbrev pub IsWithin : ℕ → ℕ → Place → Type 0
IsWithin rows columns p = (p.0 < rows) × (p.1 < columns)

-- and so is the place of each edit
abbrev pub AreAllWithin : ℕ → ℕ → EditLists → Type 0
AreAllWithin rows columns e = (i : ℕ) → i < length e.sets → IsWithin rows columns (place_at e i)

-- of the edits whose places are not, this is the first
pub record IsFirstOutside (rows columns : ℕ) (e : EditLists) (at : ℕ) : Type 0 where
  pub listed : at < length e.sets
  pub outside : ¬ IsWithin rows columns (place_at e at)
  pub before : (i : ℕ) → i < at → IsWithin rows columns (place_at e i)
