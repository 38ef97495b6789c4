-- How flat arrays store a list of blocks: the rows of all blocks one after another, and the columns, and where each block ends.
use Rattle.std.specs.Prelude.{◌≡◌, ℕ, zero, suc, ◌≤◌, List, [], ◌∷◌, length, slice_range}
use Rattle.bip_defs.specs.Blocks.{Block}

-- the blocks from these starts up to each of the ends
abbrev pub blocks_from : ℕ → ℕ → List ℕ → List ℕ → List ℕ → List ℕ → List Block
blocks_from i j [] col_ends rows cols = []
blocks_from i j (e ∷ row_ends) [] rows cols = []
blocks_from i j (e ∷ row_ends) (f ∷ col_ends) rows cols = record {
  rows = slice_range rows i e;
  cols = slice_range cols j f;
} ∷ blocks_from e f row_ends col_ends rows cols

-- the ends rise from here, and the last is the end of the flat list
abbrev pub AreEnds : ℕ → List ℕ → ℕ → Type 0
AreEnds i [] long = i ≡ long
AreEnds i (e ∷ ends) long = (i ≤ e) × AreEnds e ends long

pub record AreOffsets (row_ends col_ends rows cols : List ℕ) : Type 0 where
  pub by_row : AreEnds 0 row_ends (length rows)
  pub by_col : AreEnds 0 col_ends (length cols)
  pub same : length row_ends ≡ length col_ends

-- where the block at a place starts: at the end before it
abbrev pub start_at : ℕ → List ℕ → ℕ → ℕ
start_at i [] at = i
start_at i (e ∷ ends) zero = i
start_at i (e ∷ ends) (suc at) = start_at e ends at
