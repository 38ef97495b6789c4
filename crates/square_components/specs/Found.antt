-- What a search for strong components leaves of each row.
use Rattle.std.specs.Prelude.{◌≡◌, ℕ, ◌-◌, ◌<◌, ◌≤◌, ◌==◌, if◌then◌else◌, List, [], ◌∷◌, length}
use Rattle.bip_defs.specs.Blocks.{IsPerfect}
use Rattle.bip_defs.specs.Components.{AreComponents}
use Rattle.bip_defs.specs.Lists.{Among}
use Rattle.bip_defs.specs.Matrix.{Matrix, Place, cols}
use Rattle.bip_defs.specs.Parts.{IsSquareCol, IsSquareRow}
use Rattle.bip_graph.specs.Matching.{none}
use Rattle.square_components.specs.Numbers.{look}

-- the mate of a row, or none
abbrev pub col_in : List Place → ℕ → ℕ
col_in [] r = none
col_in (p ∷ ps) r = if p.0 == r then p.1 else col_in ps r

-- the mate of a column, or none
abbrev pub row_in : List Place → ℕ → ℕ
row_in [] c = none
row_in (p ∷ ps) c = if p.1 == c then p.0 else row_in ps c

-- when the component of a column was finished, counted from 0
abbrev pub finished_at : List Place → List ℕ → ℕ → ℕ
finished_at pairs state c = none - look state (row_in pairs c)

-- the square part's pairs among those of a maximum matching; each square row has the number of its component, of so many, taken
-- from none, and other rows have none
pub record IsFound (a : Matrix) (pairs : List Place) (state : List ℕ) (count : ℕ) : Type 0 where
  pub long : length state ≡ a.rows
  pub square : List Place
  pub perfect : IsPerfect a square
  pub are_pairs : (r c : ℕ) → Among (r, c) square → Among (r, c) pairs
  pub all_pairs : (r c : ℕ) → Among (r, c) pairs → IsSquareCol a c → Among (r, c) square
  pub components : AreComponents a square (finished_at pairs state)
  pub below : (c : ℕ) → IsSquareCol a c → finished_at pairs state c < count
  pub used : (k : ℕ) → k < count → (c : ℕ) × IsSquareCol a c × (finished_at pairs state c ≡ k)
  pub outside : (r : ℕ) → ¬ IsSquareRow a r → look state r ≡ none
  pub few : count ≤ cols a
  pub few_cols : cols a ≤ none
