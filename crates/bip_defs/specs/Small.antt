-- Small matrices and what they are made of.
use Rattle.std.specs.Prelude.{ℕ, [], ◌∷◌}
use Rattle.bip_defs.specs.Blocks.{Block}
use Rattle.bip_defs.specs.Decomposition.{Decomposition}
use Rattle.bip_defs.specs.Matrix.{Matrix, cols, upto}

-- two rows and two columns, and both entries in the first row
abbrev pub wide_row : Matrix
wide_row = record { rows = 2; columns = (0 ∷ []) ∷ (0 ∷ []) ∷ [] }

abbrev pub wide_row_parts : Decomposition
wide_row_parts = record {
  rank = 1;
  parts = record {
    horizontal_rows = 0 ∷ [];
    horizontal_cols = 0 ∷ 1 ∷ [];
    square_rows = [];
    square_cols = [];
    vertical_rows = 1 ∷ [];
    vertical_cols = [];
  };
  blocks = [];
}

-- three rows and columns, and the entries on and below the diagonal
abbrev pub lower_triangle : Matrix
lower_triangle = record { rows = 3; columns = (0 ∷ 1 ∷ 2 ∷ []) ∷ (1 ∷ 2 ∷ []) ∷ (2 ∷ []) ∷ [] }

-- a block of one row and the column of the same number
abbrev pub single : ℕ → Block
single n = record { rows = n ∷ []; cols = n ∷ [] }

-- all its rows and columns as one block, which is none of its fine blocks
abbrev pub whole_triangle : Block
whole_triangle = record { rows = 0 ∷ 1 ∷ 2 ∷ []; cols = 0 ∷ 1 ∷ 2 ∷ [] }

abbrev pub lower_triangle_parts : Decomposition
lower_triangle_parts = record {
  rank = 3;
  parts = record {
    horizontal_rows = [];
    horizontal_cols = [];
    square_rows = 0 ∷ 1 ∷ 2 ∷ [];
    square_cols = 0 ∷ 1 ∷ 2 ∷ [];
    vertical_rows = [];
    vertical_cols = [];
  };
  blocks = single 2 ∷ single 1 ∷ single 0 ∷ [];
}

-- what a matrix without entries has: all columns are horizontal, and all rows vertical
abbrev pub outer_parts_alone : Matrix → Decomposition
outer_parts_alone a = record {
  rank = 0;
  parts = record {
    horizontal_rows = [];
    horizontal_cols = upto (cols a);
    square_rows = [];
    square_cols = [];
    vertical_rows = upto a.rows;
    vertical_cols = [];
  };
  blocks = [];
}
