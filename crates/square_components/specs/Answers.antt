-- The strong components of the square part, as they are answered.
use Rattle.std.specs.Prelude.{ℕ, List, IsTrue}
use Rattle.bip_defs.specs.Blocks.{IsPerfect}
use Rattle.bip_defs.specs.Components.{AreComponents}
use Rattle.bip_defs.specs.Matrix.{Matrix, Place}
use Rattle.bip_defs.specs.Parts.{IsSquareCol}
use Rattle.square_components.specs.Groups.{AreOfMates}
use Rattle.square_components.specs.Numbers.{AreNumbered, FallAlong}
use Rattle.square_components.specs.Renumbering.{AreNumberedByLeast}
use Rattle.square_components.specs.declared.numbering.ByLeastColumn.{ByLeastColumn}
use Rattle.square_components.specs.declared.numbering.SquareComponents.{SquareComponents}
use Rattle.square_components.specs.declared.numbering.SquareComponents.TheVariants.{One, Several}
use Rattle.square_components.specs.declared.numbering.StrongComponents.{StrongComponents}

-- numbered in the order in which a search finished them, where a row has the number of its mate
pub record AreByFinish (a : Matrix) (pairs : List Place) (s : StrongComponents) : Type 0 where
  pub columns : AreNumbered a pairs s.of_cols.items s.count
  pub rows : AreOfMates pairs s.of_cols.items a.rows s.of_rows.items

-- numbered by their least columns, where a row has the number of its mate; in order only where no entry leads to a greater number
pub record AreByLeast (a : Matrix) (pairs : List Place) (s : ByLeastColumn) : Type 0 where
  pub columns : AreNumberedByLeast a pairs s.components.of_cols.items s.components.count
  pub rows : AreOfMates pairs s.components.of_cols.items a.rows s.components.of_rows.items
  pub in_order : IsTrue s.in_order
      → FallAlong a s.components.of_rows.items s.components.of_cols.items

-- the square part has a column, and all its columns are one strong component
pub record IsOneComponent (a : Matrix) : Type 0 where
  pub square : List Place
  pub perfect : IsPerfect a square
  pub components : AreComponents a square (λ c. 0)
  pub some : (c : ℕ) × IsSquareCol a c

-- one component, or several or none by their least columns
abbrev pub AreSquareComponents : Matrix → List Place → SquareComponents → Type 0
AreSquareComponents a pairs One = IsOneComponent a
AreSquareComponents a pairs (Several s) = AreByLeast a pairs s
