-- The summary of a matrix, and the matrix that two numbers name.
use Rattle.std.specs.Prelude.{◌≡◌, ℕ, List, [], ◌∷◌, codes}
use Rattle.bip_defs.specs.Decomposition.{Decomposition, IsDecompositionOf}
use Rattle.bip_defs.specs.Matrix.{HasPlaces, Matrix}
use Rattle.bip_graph.specs.Texts.{matrix_line, rank_line, sizes_of, square_line, text_of}
use Rattle.btf_text.specs.Reports.{lengths_line}
use Rattle.sp_pattern.specs.Load.{load_places}

-- five lines: the sizes of a matrix, its rank, and the sizes of its parts
abbrev pub summary_of : Matrix → Decomposition → List ℕ
summary_of a d = text_of (
    matrix_line (sizes_of a)
    ∷ rank_line d.rank
    ∷ lengths_line (codes "horizontal") d.parts.horizontal_rows d.parts.horizontal_cols
    ∷ square_line d.blocks
    ∷ lengths_line (codes "vertical") d.parts.vertical_rows d.parts.vertical_cols
    ∷ [])

pub record IsSummary (a : Matrix) (text : List ℕ) : Type 0 where
  pub decomposition : Decomposition
  pub is_decomposition : IsDecompositionOf a decomposition
  pub spelled : text ≡ summary_of a decomposition

-- the matrix of the places that the size and the seed name, each of them once
abbrev pub IsLoadMatrix : ℕ → ℕ → Matrix → Type 0
IsLoadMatrix size seed a = HasPlaces size size (load_places size seed) a
