-- Some entries of a matrix, column by column.
use Rattle.std.specs.Prelude.{◌≡◌, ◌↔◌, ℕ, ◌+◌, ◌<◌, ◌≤◌, Bool, List, [], ◌∷◌, length, if◌then◌else◌}
use Rattle.bip_defs.specs.Lists.{Among}
use Rattle.bip_defs.specs.Matrix.{IsEntry, Matrix, cols, column, entry_count}
use Rattle.sp_pattern.specs.Pairs.{IsOrder, Pair}
use Rattle.sp_pattern.specs.Weights.{position, start_of}

-- of numbers the first of which stands at `at`, those that are taken
abbrev pub taken : (ℕ → Bool) → ℕ → List ℕ → List ℕ
taken takes at [] = []
taken takes at (x ∷ xs) = if takes at then x ∷ taken takes (at + 1) xs else taken takes (at + 1) xs

-- the rows of a column's entries that are taken, by where these stand
abbrev pub taken_rows : Matrix → (ℕ → Bool) → ℕ → List ℕ
taken_rows a takes c = taken takes (start_of a c) (column a c)

-- the flat lists have these rows of each column, column by column
pub record AreKept (a : Matrix) (kept : ℕ → List ℕ) (starts flat : List ℕ) : Type 0 where
  pub order : IsOrder (cols a) a.rows starts flat
  pub same : (p : Pair) → Among p order.pairs ↔ ((p.0 < cols a) × Among p.1 (kept p.0))
  pub few : length flat ≤ entry_count a

-- the entries that are taken are those that pass a test of their row and column
abbrev pub Decides : Matrix → (ℕ → Bool) → (ℕ → ℕ → Bool) → Type 0
Decides a takes passes = (r c : ℕ) → IsEntry a r c → takes (position a r c) ≡ passes r c
