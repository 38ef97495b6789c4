-- The connected components of a horizontal part, gathered by their numbers.
use Rattle.std.specs.Prelude.{ℕ, List}
use Rattle.bip_defs.specs.Matrix.{Matrix}
use Rattle.id_groups.specs.Groups.{AreGroups}
use Rattle.outer_components.specs.Numbers.{AreNumbers}

pub record AreGathered (a : Matrix) (count : ℕ) (rows columns : List (List ℕ)) : Type 0 where
  pub row_numbers : List ℕ
  pub col_numbers : List ℕ
  pub numbers : AreNumbers a count row_numbers col_numbers
  pub by_row : AreGroups row_numbers count rows
  pub by_col : AreGroups col_numbers count columns
