-- The fine blocks of the square part, and their order.
use Rattle.std.specs.List.{flat_map}
use Rattle.std.specs.Prelude.{◌≢◌, ℕ, ◌≤◌, List, [], ◌∷◌, slice_index, slice_index_or}
use Rattle.bip_defs.specs.Lists.{Among, AreDistinct, Lists}
use Rattle.bip_defs.specs.Matching.{IsMatching, cols_of, rows_of}
use Rattle.bip_defs.specs.Matrix.{IsEntry, Matrix, Place}
use Rattle.bip_defs.specs.Parts.{IsSquareCol, IsSquareRow}

-- a matching of entries that covers the rows and columns of the square part, and no others
pub record IsPerfect (a : Matrix) (m : List Place) : Type 0 where
  pub matching : IsMatching a m
  pub covers_row : (r : ℕ) → IsSquareRow a r → Among r (rows_of m)
  pub covers_col : (c : ℕ) → IsSquareCol a c → Among c (cols_of m)
  pub only_rows : (r : ℕ) → Among r (rows_of m) → IsSquareRow a r
  pub only_cols : (c : ℕ) → Among c (cols_of m) → IsSquareCol a c

-- some perfect matching of the square part holds the place
abbrev pub IsAllowed : Matrix → ℕ → ℕ → Type 0
IsAllowed a r c = (m : List Place) × IsPerfect a m × Among (r, c) m

-- a row or a column
pub data Vertex : Type 0 where
  RowAt : (r : ℕ) → Vertex
  ColAt : (c : ℕ) → Vertex

-- a chain of allowed entries leads from v to this vertex
pub data Chain (a : Matrix) (v : Vertex) : Vertex → Type 0 where
  itself : Chain a v v
  by_row : {r c : ℕ} → Chain a v (RowAt r) → IsAllowed a r c → Chain a v (ColAt c)
  by_col : {r c : ℕ} → Chain a v (ColAt c) → IsAllowed a r c → Chain a v (RowAt r)

pub record Block : Type 0 where
  pub rows : List ℕ
  pub cols : List ℕ

abbrev pub no_block : Block
no_block = record { rows = []; cols = [] }

-- the block at a position, counted from 0; past the last one stands a block of no rows and no columns
abbrev pub block_at : List Block → ℕ → Block
block_at bs i = slice_index_or bs i no_block

-- the rows of all blocks, block by block
abbrev pub all_rows : List Block → List ℕ
all_rows bs = flat_map (λ (b : Block). b.rows) bs

abbrev pub all_cols : List Block → List ℕ
all_cols bs = flat_map (λ (b : Block). b.cols) bs

abbrev pub IsSquareVertex : Matrix → Vertex → Type 0
IsSquareVertex a (RowAt r) = IsSquareRow a r
IsSquareVertex a (ColAt c) = IsSquareCol a c

-- the rows and columns to which chains lead from this row or column of the square part
pub record IsClassOf (a : Matrix) (v : Vertex) (b : Block) : Type 0 where
  pub square : IsSquareVertex a v
  pub rows : Lists (λ r. Chain a v (RowAt r)) b.rows
  pub cols : Lists (λ c. Chain a v (ColAt c)) b.cols

abbrev pub IsBlock : Matrix → Block → Type 0
IsBlock a b = (v : Vertex) × IsClassOf a v b

-- b's columns have no entry in d's rows
abbrev pub NoEntryIn : Matrix → Block → Block → Type 0
NoEntryIn a d b = (r c : ℕ) → Among r d.rows → Among c b.cols → ¬ IsEntry a r c

-- b's columns have entries in the rows of no other of these blocks
abbrev pub MeetsNoOther : Matrix → List Block → Block → Type 0
MeetsNoOther a blocks b = (d : Block) → Among d blocks → d ≢ b → NoEntryIn a d b

-- the least column of a block
abbrev pub least_col : Block → ℕ
least_col b = slice_index b.cols 0

-- at each position stands, of the blocks from there on that meet no other of them, the one with the least column
abbrev pub AreInOrder : Matrix → List Block → Type 0
AreInOrder a [] = Unit {0}
AreInOrder a (b ∷ bs) = MeetsNoOther a (b ∷ bs) b
    × ((d : Block) → Among d (b ∷ bs) → MeetsNoOther a (b ∷ bs) d → least_col b ≤ least_col d)
    × AreInOrder a bs

-- all blocks, each once, in order
pub record AreBlocksOf (a : Matrix) (bs : List Block) : Type 0 where
  pub sound : (b : Block) → Among b bs → IsBlock a b
  pub complete : (b : Block) → IsBlock a b → Among b bs
  pub distinct : AreDistinct bs
  pub in_order : AreInOrder a bs
