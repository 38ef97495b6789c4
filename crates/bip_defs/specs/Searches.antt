-- The six parts as two searches give them, one from the unmatched columns and one from the unmatched rows.
use Rattle.std.specs.Prelude.{◌≡◌, ℕ, ◌<◌, List}
use Rattle.bip_defs.specs.Lists.{Among, Lists}
use Rattle.bip_defs.specs.Matrix.{IsEntry, Matrix, cols}
use Rattle.bip_defs.specs.Parts.{Parts}

-- the parts are read off the reached columns w and the reached rows v
pub record AreReadOff (a : Matrix) (w v : List ℕ) (p : Parts) : Type 0 where
  pub horizontal_cols : p.horizontal_cols ≡ w
  pub vertical_rows : p.vertical_rows ≡ v
  pub horizontal_rows : Lists (λ r. (c : ℕ) × Among c w × IsEntry a r c) p.horizontal_rows
  pub vertical_cols : Lists (λ c. (r : ℕ) × Among r v × IsEntry a r c) p.vertical_cols
  pub square_rows : Lists
      (λ r. (r < a.rows) × (¬ Among r p.horizontal_rows) × (¬ Among r v)) p.square_rows
  pub square_cols : Lists
      (λ c. (c < cols a) × (¬ Among c w) × (¬ Among c p.vertical_cols)) p.square_cols
