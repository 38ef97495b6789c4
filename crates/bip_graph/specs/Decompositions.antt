-- What the answers show: the values that the definitions speak of.
use Rattle.std.specs.Prelude.{◌≡◌}
use Rattle.bip_defs.specs.ConnectedComponents as connected
use Rattle.bip_defs.specs.Decomposition as whole
use Rattle.bip_defs.specs.Matrix.{Matrix, cols, entry_count}
use Rattle.bip_defs.specs.Parts as coarse
use Rattle.bip_graph.specs.declared.answers.Components.{Components}
use Rattle.bip_graph.specs.declared.answers.Decomposition.{Decomposition}
use Rattle.bip_graph.specs.declared.answers.Parts.{Parts}

-- the six lists
abbrev pub parts_of : Parts → coarse.Parts
parts_of p = record {
  horizontal_rows = p.hr.items;
  horizontal_cols = p.hc.items;
  square_rows = p.sr.items;
  square_cols = p.sc.items;
  vertical_rows = p.vr.items;
  vertical_cols = p.vc.items;
}

-- the six lists are the matrix's parts
abbrev pub HasParts : Matrix → Parts → Type 0
HasParts a p = coarse.ArePartsOf a (parts_of p)

-- both lists
abbrev pub components_of : Components → connected.Components
components_of c = record { horizontal = c.horizontal; vertical = c.vertical }

-- the rank, the parts and the blocks
abbrev pub decomposition_of : Decomposition → whole.Decomposition
decomposition_of d = record { rank = d.rank; parts = parts_of d.parts; blocks = d.blocks }

-- the answer has the matrix's numbers of rows, columns and entries, and is its decomposition
pub record Decomposes (a : Matrix) (d : Decomposition) : Type 0 where
  pub rows : d.m ≡ a.rows
  pub cols_are : d.n ≡ cols a
  pub entries : d.e ≡ entry_count a
  pub decomposition : whole.IsDecompositionOf a (decomposition_of d)
