-- The sizes of a form, as C is told them.
use Rattle.std.specs.Prelude.{◌≡◌, ℕ, ℤ, negsuc, pos, Option, None, Some}
use Rattle.blocktri.specs.declared.sizes.ComponentCounts.{ComponentCounts}
use Rattle.blocktri.specs.declared.sizes.Sizes.{Sizes}
use Rattle.blocktri_c.specs.declared.form_sizes.FormSizes.{FormSizes}

-- a number, or -1 where it is not known
abbrev pub known_or : Option ℕ → ℤ
known_or None = negsuc 0
known_or (Some n) = pos n

abbrev pub horizontal_of : Option ComponentCounts → ℤ
horizontal_of None = negsuc 0
horizontal_of (Some c) = pos c.horizontal

abbrev pub vertical_of : Option ComponentCounts → ℤ
vertical_of None = negsuc 0
vertical_of (Some c) = pos c.vertical

-- the same sizes, number by number
pub record AreFormSizes (s : Sizes) (z : FormSizes) : Type 0 where
  pub rank : z.rank ≡ pos s.rank
  pub horizontal_rows : z.horizontal_rows ≡ pos s.horizontal_rows
  pub horizontal_columns : z.horizontal_columns ≡ pos s.horizontal_columns
  pub square : z.square ≡ pos s.square
  pub vertical_rows : z.vertical_rows ≡ pos s.vertical_rows
  pub vertical_columns : z.vertical_columns ≡ pos s.vertical_columns
  pub blocks : z.blocks ≡ known_or s.blocks
  pub horizontal_components : z.horizontal_components ≡ horizontal_of s.components
  pub vertical_components : z.vertical_components ≡ vertical_of s.components
