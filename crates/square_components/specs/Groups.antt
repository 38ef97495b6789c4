-- The numbers of rows, by those of their mates.
use Rattle.std.specs.Prelude.{◌≡◌, ◌⊎◌, ℕ, ◌<◌, List, length, slice_index}
use Rattle.bip_defs.specs.Lists.{Among}
use Rattle.bip_defs.specs.Matching.{rows_of}
use Rattle.bip_defs.specs.Matrix.{Place}

-- the number of the row's mate, or none where it has no mate
abbrev pub IsOfMate : List Place → List ℕ → ℕ → ℕ → Type 0
IsOfMate m numbers r x = ((c : ℕ) × Among (r, c) m × (x ≡ slice_index numbers c))
    ⊎ ((¬ Among r (rows_of m)) × (x ≡ 4294967295))

-- the same for each of n rows
pub record AreOfMates (m : List Place) (numbers : List ℕ) (n : ℕ) (of_rows : List ℕ) : Type 0 where
  pub long : length of_rows ≡ n
  pub each : (r : ℕ) → r < n → IsOfMate m numbers r (slice_index of_rows r)
