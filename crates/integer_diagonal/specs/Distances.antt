-- Distances of rows from all unmatched columns.
use Rattle.std.specs.Prelude.{◌≡◌, ℕ, ◌<◌, ◌≤◌, length}
use Rattle.bip_defs.specs.Lists.{Among}
use Rattle.integer_diagonal.specs.declared.distances.Distances.{Distances}

-- each row has a place for its distance, and the radius is no more than this
pub record AreWithin {W : Type 0} (rows most : ℕ) (l : Distances W) : Type 0 where
  pub long : length l.of_far.items ≡ rows
  pub radius : l.radius ≤ most

-- nor is a row that waits farther
pub record AreNear {W : Type 0} (rows most : ℕ) (l : Distances W) : Type 0 where
  pub within : AreWithin rows most l
  pub waiting : (e : ℕ × ℕ) → Among e l.frontier → (e.1 < rows) × (e.0 ≤ most)
