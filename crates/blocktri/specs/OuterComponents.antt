-- What is told of the connected components of the outer parts.
use Rattle.std.specs.Prelude.{◌≡◌, ℕ, ◌<◌, List, length, slice_index, Option, Some}
use Rattle.bip_defs.specs.Blocks.{Block, block_at}
use Rattle.bip_defs.specs.ConnectedComponents.{AreConnectedComponents, Components}
use Rattle.bip_defs.specs.Lists.{Among}
use Rattle.bip_defs.specs.Matrix.{Matrix, cols}
use Rattle.bip_defs.specs.Parts.{IsSquareCol, IsSquareRow}
use Rattle.bip_graph.specs.Matching.{none}
use Rattle.blocktri.specs.Answers.{Fills}
use Rattle.blocktri.specs.declared.sizes.ComponentCounts.{ComponentCounts}

abbrev pub rows_of_block : Block → List ℕ
rows_of_block b = b.rows

abbrev pub cols_of_block : Block → List ℕ
cols_of_block b = b.cols

-- at the place of each number that `members` gives of a block stands which of the blocks it is
abbrev pub AreNumbersOf : (Block → List ℕ) → List Block → List ℕ → Type 0
AreNumbersOf members blocks xs = (i x : ℕ) → i < length blocks
    → Among x (members (block_at blocks i)) → slice_index xs x ≡ i

-- each row of an outer part has the number of its component in that part, and one of the square
-- part what stands for none
pub record AreRowComponents (a : Matrix) (c : Components) (xs : List ℕ) : Type 0 where
  pub long : length xs ≡ a.rows
  pub horizontal : AreNumbersOf rows_of_block c.horizontal xs
  pub vertical : AreNumbersOf rows_of_block c.vertical xs
  pub square : (r : ℕ) → IsSquareRow a r → slice_index xs r ≡ none

-- and so with the columns
pub record AreColumnComponents (a : Matrix) (c : Components) (xs : List ℕ) : Type 0 where
  pub long : length xs ≡ cols a
  pub horizontal : AreNumbersOf cols_of_block c.horizontal xs
  pub vertical : AreNumbersOf cols_of_block c.vertical xs
  pub square : (c : ℕ) → IsSquareCol a c → slice_index xs c ≡ none

-- these are the components of both outer parts, and so many of each
pub record AreCounts (c : Components) (counts : ComponentCounts) : Type 0 where
  pub horizontal : counts.horizontal ≡ length c.horizontal
  pub vertical : counts.vertical ≡ length c.vertical

-- the components of both outer parts: how many, and the number of each row's and each column's
pub record TellsComponents (a : Matrix) (counts : Option ComponentCounts) (old_rows rows old_columns
    columns : List ℕ) : Type 0 where
  pub components : Components
  pub are_components : AreConnectedComponents a components
  pub found : ComponentCounts
  pub counts_are : counts ≡ Some found
  pub counted : AreCounts components found
  pub rows_are : Fills old_rows rows (AreRowComponents a components rows)
  pub columns_are : Fills old_columns columns (AreColumnComponents a components columns)

-- the first so many blocks have written their numbers to the places of the numbers that `members`
-- gives of each; what stands elsewhere stays
pub record AreNumbered (members : Block → List ℕ) (blocks : List Block) (count : ℕ)
    (old new : List ℕ) : Type 0 where
  pub long : length new ≡ length old
  pub here : (i x : ℕ) → i < count → Among x (members (block_at blocks i))
      → slice_index new x ≡ i
  pub others : (x : ℕ) → ((i : ℕ) → i < count → ¬ Among x (members (block_at blocks i)))
      → slice_index new x ≡ slice_index old x

-- no number is one of two blocks, and each is below n
pub record AreApart (members : Block → List ℕ) (blocks : List Block) (n : ℕ) : Type 0 where
  pub below : (i x : ℕ) → i < length blocks → Among x (members (block_at blocks i)) → x < n
  pub once : (i j x : ℕ) → i < length blocks → j < length blocks
      → Among x (members (block_at blocks i)) → Among x (members (block_at blocks j)) → i ≡ j

-- a number stands at the places of a list, and what stands elsewhere stays
pub record IsWrittenAt (places : List ℕ) (number : ℕ) (old new : List ℕ) : Type 0 where
  pub long : length new ≡ length old
  pub here : (x : ℕ) → Among x places → slice_index new x ≡ number
  pub others : (x : ℕ) → ¬ Among x places → slice_index new x ≡ slice_index old x
