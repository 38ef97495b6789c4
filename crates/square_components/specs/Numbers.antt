-- Numbers of the strong components of the square part's columns.
use Rattle.std.specs.Prelude.{◌≡◌, ◌≢◌, ℕ, ◌<◌, ◌≤◌, List, length, slice_index, slice_index_or}
use Rattle.bip_defs.specs.Blocks.{IsPerfect}
use Rattle.bip_defs.specs.Components.{AreComponents}
use Rattle.bip_defs.specs.Lists.{Among}
use Rattle.bip_defs.specs.Matrix.{IsEntry, Matrix, Place, cols}
use Rattle.bip_defs.specs.Parts.{IsSquareCol}
use Rattle.bip_graph.specs.Matching.{none}

-- the number of a column, or none
abbrev pub look : List ℕ → ℕ → ℕ
look numbers c = slice_index_or numbers c none

-- the square part's pairs among those of a maximum matching, and for each column a number, of so many
pub record AreColumnNumbers (a : Matrix) (pairs : List Place) (numbers : List ℕ)
    (count : ℕ) : Type 0 where
  pub long : length numbers ≡ cols a
  pub square : List Place
  pub perfect : IsPerfect a square
  -- they are the pairs whose column is square
  pub are_pairs : (r c : ℕ) → Among (r, c) square → Among (r, c) pairs
  pub all_pairs : (r c : ℕ) → Among (r, c) pairs → IsSquareCol a c → Among (r, c) square
  -- the numbers of the square columns are those below the count, and others have none
  pub below : (c : ℕ) → IsSquareCol a c → look numbers c < count
  pub used : (k : ℕ) → k < count → (c : ℕ) × IsSquareCol a c × (look numbers c ≡ k)
  pub outside : (c : ℕ) → ¬ IsSquareCol a c → look numbers c ≡ none
  pub few : count ≤ cols a

-- for each column the number of its strong component, in the order in which a search finished them
pub record AreNumbered (a : Matrix) (pairs : List Place) (numbers : List ℕ)
    (count : ℕ) : Type 0 where
  pub columns : AreColumnNumbers a pairs numbers count
  pub components : AreComponents a columns.square (look numbers)

-- no entry of a square column leads to a row of a greater number
abbrev pub FallAlong : Matrix → List ℕ → List ℕ → Type 0
FallAlong a of_rows of_cols = (r c : ℕ) → IsSquareCol a c → IsEntry a r c
    → slice_index of_rows r ≢ none → slice_index of_rows r ≤ look of_cols c
