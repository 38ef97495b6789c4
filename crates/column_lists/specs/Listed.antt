-- Columns as lists of rows that stand in any order.
use Rattle.std.specs.Prelude.{◌↔◌, ℕ, ◌^◌, ◌<◌, List, length}
use Rattle.bip_defs.specs.Lists.{Among}
use Rattle.bip_defs.specs.Matrix.{IsEntry, Matrix, cols}

-- the list of each column has the rows of its entries and no others, maybe several times; sizes and
-- lengths fit 32 bits
pub record AreListed (a : Matrix) (line : ℕ → List ℕ) : Type 0 where
  pub few_rows : a.rows < 2 ^ 32
  pub few_cols : cols a < 2 ^ 32
  pub few : (c : ℕ) → c < cols a → length (line c) < 2 ^ 32
  pub entries : (r c : ℕ) → c < cols a → IsEntry a r c ↔ Among r (line c)
