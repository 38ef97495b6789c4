-- Columns in layers.
use Rattle.std.specs.Prelude.{◌≡◌, ℕ, ◌<◌, List, length}
use Rattle.bip_defs.specs.Lists.{Among}

-- the number of each column's layer, the place up to which its list was read, the columns of the
-- layer that is looked through, and those of the next
pub record LayersState : Type 0 where
  pub numbers : List ℕ
  pub places : List ℕ
  pub layer : List ℕ
  pub next : List ℕ

-- a number and a place for each of n columns, and lists of such columns
pub record AreLayers (n : ℕ) (x : LayersState) : Type 0 where
  pub numbers : length x.numbers ≡ n
  pub places : length x.places ≡ n
  pub layer : (c : ℕ) → Among c x.layer → c < n
  pub next : (c : ℕ) → Among c x.next → c < n
