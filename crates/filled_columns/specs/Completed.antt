-- Pairs that are completed with the rows and the columns that they leave out.
use Rattle.std.specs.Prelude.{ℕ, ◌+◌, ◌^◌, ◌<◌, ◌≤◌, List}
use Rattle.bip_defs.specs.Lists.{Among}
use Rattle.bip_defs.specs.Matching.{cols_of, rows_of}
use Rattle.bip_defs.specs.Matrix.{IsEntry, Matrix, Place, cols}
use Rattle.bip_defs.specs.Once.{ListsOnce}
use Rattle.bip_graph.specs.Matching.{Pairing}

-- the pairs, and those of the rows and the columns that they leave out, both rising, in step
pub record Completes (a : Matrix) (pairs full : List Place) : Type 0 where
  pub rows : ListsOnce (λ r. r < a.rows) (rows_of full)
  pub columns : ListsOnce (λ c. c < cols a) (cols_of full)
  pub keeps : (p : Place) → Among p pairs → Among p full
  pub no_entries : (p : Place) → Among p full → ¬ Among p pairs → ¬ IsEntry a p.0 p.1
  pub in_step : (p q : Place) → Among p full → Among q full → ¬ Among p pairs → ¬ Among q pairs
      → p.0 < q.0 → p.1 < q.1

-- the rows from one on, up to before another, are matched
abbrev pub AreTaken : Pairing → ℕ → ℕ → Type 0
AreTaken m from to = (r : ℕ) → from ≤ r → r < to → Among r (rows_of m.pairs)

-- the first unmatched row from one on
pub record IsFirstFree (m : Pairing) (from row : ℕ) : Type 0 where
  pub after : from ≤ row
  pub within : row < m.rows
  pub small : row + 1 < 2 ^ 32
  pub free : ¬ Among row (rows_of m.pairs)
  pub before : AreTaken m from row
