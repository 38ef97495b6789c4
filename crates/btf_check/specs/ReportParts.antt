-- What is compared where a report is judged.
use Rattle.std.specs.Prelude.{◌≡◌, ℕ, List, length}
use Rattle.bip_defs.specs.Lists.{Among}
use Rattle.bip_defs.specs.Matrix.{Matrix, Place}
use Rattle.bip_defs.specs.Once.{ListsOnce}
use Rattle.bip_defs.specs.Parts.{Parts}
use Rattle.bip_defs.specs.Blocks.{all_cols, all_rows}
use Rattle.bip_graph.specs.Texts.{Report, sizes_of}

-- the first lines are those of a matrix with this maximum matching
pub record HasSizes (a : Matrix) (m : List Place) (r : Report) : Type 0 where
  pub sizes : r.sizes ≡ sizes_of a
  pub rank : r.rank ≡ length m

-- each once, in any order
abbrev pub AreOnce : List ℕ → List ℕ → Type 0
AreOnce once list = ListsOnce (λ x. Among x once) list

-- the horizontal and the vertical part are these
pub record HasOuterParts (p : Parts) (r : Report) : Type 0 where
  pub horizontal_rows : r.horizontal_rows ≡ p.horizontal_rows
  pub horizontal_cols : r.horizontal_cols ≡ p.horizontal_cols
  pub vertical_rows : r.vertical_rows ≡ p.vertical_rows
  pub vertical_cols : r.vertical_cols ≡ p.vertical_cols

-- and the blocks together are the square part
pub record HasParts (p : Parts) (r : Report) : Type 0 where
  pub outer : HasOuterParts p r
  pub square_rows : AreOnce p.square_rows (all_rows r.blocks)
  pub square_cols : AreOnce p.square_cols (all_cols r.blocks)
