-- The connected components of the horizontal and of the vertical part, and their order.
use Rattle.std.specs.Prelude.{ℕ, List, map, slice_index}
use Rattle.bip_defs.specs.Blocks.{Block, ColAt, RowAt, Vertex, least_col}
use Rattle.bip_defs.specs.Lists.{Among, IsRising, Lists}
use Rattle.bip_defs.specs.Matrix.{IsEntry, Matrix}
use Rattle.bip_defs.specs.Parts.{IsHorizontalCol, IsHorizontalRow, IsVerticalCol, IsVerticalRow}

-- the rows and columns of the horizontal part
abbrev pub IsHorizontalVertex : Matrix → Vertex → Type 0
IsHorizontalVertex a (RowAt r) = IsHorizontalRow a r
IsHorizontalVertex a (ColAt c) = IsHorizontalCol a c

-- the rows and columns of the vertical part
abbrev pub IsVerticalVertex : Matrix → Vertex → Type 0
IsVerticalVertex a (RowAt r) = IsVerticalRow a r
IsVerticalVertex a (ColAt c) = IsVerticalCol a c

-- a chain of entries leads from v to this vertex, each of them in a row and a column of the part
pub data Joined (a : Matrix) (InPart : Vertex → Type 0) (v : Vertex) : Vertex → Type 0 where
  alone : Joined a InPart v v
  to_col : {r c : ℕ} → Joined a InPart v (RowAt r) → IsEntry a r c → InPart (RowAt r)
      → InPart (ColAt c) → Joined a InPart v (ColAt c)
  to_row : {r c : ℕ} → Joined a InPart v (ColAt c) → IsEntry a r c → InPart (RowAt r)
      → InPart (ColAt c) → Joined a InPart v (RowAt r)

-- the component of a row or column of the part: the rows and columns that chains join with it
pub record IsComponentWith (a : Matrix) (InPart : Vertex → Type 0) (v : Vertex)
    (b : Block) : Type 0 where
  pub inside : InPart v
  pub rows : Lists (λ r. Joined a InPart v (RowAt r)) b.rows
  pub cols : Lists (λ c. Joined a InPart v (ColAt c)) b.cols

abbrev pub IsConnectedComponent : Matrix → (Vertex → Type 0) → Block → Type 0
IsConnectedComponent a InPart b = (v : Vertex) × IsComponentWith a InPart v b

-- the least row of a component
abbrev pub least_row : Block → ℕ
least_row b = slice_index b.rows 0

-- all components of the part, each once, in the order of these numbers of theirs
pub record AreOrderedComponents (a : Matrix) (InPart : Vertex → Type 0) (least : Block → ℕ)
    (bs : List Block) : Type 0 where
  pub sound : (b : Block) → Among b bs → IsConnectedComponent a InPart b
  pub complete : (b : Block) → IsConnectedComponent a InPart b → Among b bs
  pub rising : IsRising (map least bs)

-- lists of components of both parts
pub record Components : Type 0 where
  pub horizontal : List Block
  pub vertical : List Block

-- the horizontal ones stand by least column, the vertical ones by least row
pub record AreConnectedComponents (a : Matrix) (c : Components) : Type 0 where
  pub horizontal : AreOrderedComponents a (IsHorizontalVertex a) least_col c.horizontal
  pub vertical : AreOrderedComponents a (IsVerticalVertex a) least_row c.vertical
