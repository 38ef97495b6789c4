-- The block triangular form that is found of a matrix.
use Rattle.std.specs.Prelude.{◌≡◌}
use Rattle.bip_defs.specs.Decomposition.{Decomposition, IsDecompositionOf}
use Rattle.bip_defs.specs.Matrix.{Matrix, cols}
use Rattle.bip_graph.specs.Decompositions.{parts_of}
use Rattle.blocktri.specs.declared.forms.BlockForm.{BlockForm}

-- its rank, its parts and its blocks
abbrev pub decomposition_of : BlockForm → Decomposition
decomposition_of f = record { rank = f.rank; parts = parts_of f.parts; blocks = f.blocks }

-- it has the matrix's numbers of rows and columns, and is its decomposition
pub record IsBlockFormOf (a : Matrix) (f : BlockForm) : Type 0 where
  pub rows : f.m ≡ a.rows
  pub cols_are : f.n ≡ cols a
  pub decomposition : IsDecompositionOf a (decomposition_of f)
