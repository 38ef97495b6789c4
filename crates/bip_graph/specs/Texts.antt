-- The texts that are written, line by line.
use Rattle.std.specs.Prelude.{ℕ, suc, ◌+◌, ◌==◌, if◌then◌else◌, List, [], ◌∷◌, ◌++◌, length, map, Option, None, Some, codes}
use Rattle.std.specs.List.{flat_map, sum_by}
use Rattle.std.specs.Fmt.{decimal}
use Rattle.bip_defs.specs.Blocks.{Block}
use Rattle.bip_defs.specs.ConnectedComponents.{Components}
use Rattle.bip_defs.specs.Matrix.{Matrix, Place, cols, entry_count}

-- a word, and numbers behind it
pub record TextLine : Type 0 where
  pub word : List ℕ
  pub numbers : List ℕ

-- one space and one number each
abbrev pub spaced : List ℕ → List ℕ
spaced numbers = flat_map (λ n. 32 ∷ decimal n) numbers

abbrev pub spelled : TextLine → List ℕ
spelled l = l.word ++ spaced l.numbers ++ 10 ∷ []

abbrev pub text_of : List TextLine → List ℕ
text_of ls = flat_map spelled ls

abbrev pub line : List ℕ → List ℕ → TextLine
line word numbers = record { word = word; numbers = numbers }

-- texts count rows and columns from 1
abbrev pub counted : List ℕ → List ℕ
counted ns = map suc ns

abbrev pub lists : List ℕ → List ℕ → List TextLine
lists rows cols = line (codes "rows") (counted rows) ∷ line (codes "columns") (counted cols) ∷ []

-- a part: its sizes, and its lists unless both are empty
abbrev pub part : List ℕ → List ℕ → List ℕ → List TextLine
part word rows cols = line word (length rows ∷ length cols ∷ [])
    ∷ (if length rows + length cols == 0 then [] else lists rows cols)

-- the numbers of rows, columns and entries of a matrix
pub record Sizes : Type 0 where
  pub rows : ℕ
  pub cols : ℕ
  pub entries : ℕ

abbrev pub sizes_of : Matrix → Sizes
sizes_of a = record { rows = a.rows; cols = cols a; entries = entry_count a }

abbrev pub matrix_line : Sizes → TextLine
matrix_line s = line (codes "matrix") (s.rows ∷ s.cols ∷ s.entries ∷ [])

abbrev pub rank_line : ℕ → TextLine
rank_line k = line (codes "rank") (k ∷ [])

abbrev pub end_line : TextLine
end_line = line (codes "end") []

-- ---- the text of `rank`

abbrev pub rank_lines : Sizes → ℕ → List ℕ → List ℕ → List TextLine
rank_lines s k rows cols = matrix_line s ∷ rank_line k ∷ part (codes "horizontal") rows cols
    ++ end_line ∷ []

abbrev pub rank_text : Sizes → ℕ → List ℕ → List ℕ → List ℕ
rank_text s k rows cols = text_of (rank_lines s k rows cols)

-- ---- the report

-- what a report says; version 1 has no components, and the orders and the pairs may be left out
pub record Report : Type 0 where
  pub sizes : Sizes
  pub rank : ℕ
  pub components : Option Components
  pub horizontal_rows : List ℕ
  pub horizontal_cols : List ℕ
  pub blocks : List Block
  pub vertical_rows : List ℕ
  pub vertical_cols : List ℕ
  pub orders : Option (List ℕ × List ℕ)
  pub pairs : Option (List Place)

-- the blocks from number i on
abbrev pub block_lines : ℕ → List Block → List TextLine
block_lines i [] = []
block_lines i (b ∷ bs) = line (codes "block") (i ∷ length b.rows ∷ []) ∷ lists b.rows b.cols
    ++ block_lines (suc i) bs

abbrev pub square_size : List Block → ℕ
square_size bs = sum_by (λ (b : Block). length b.rows) bs

abbrev pub square_line : List Block → TextLine
square_line bs = line (codes "square") (square_size bs ∷ length bs ∷ [])

abbrev pub square_lines : List Block → List TextLine
square_lines bs = square_line bs ∷ block_lines 1 bs

-- the components of a part from number i on: their numbers, the lengths of their lists, and the lists, empty or not
abbrev pub component_lines : ℕ → List Block → List TextLine
component_lines i [] = []
component_lines i (b ∷ bs) = line (codes "component") (i ∷ length b.rows ∷ length b.cols ∷ [])
    ∷ lists b.rows b.cols ++ component_lines (suc i) bs

-- how many components a part has, and they
abbrev pub numbered_components : List ℕ → List Block → List TextLine
numbered_components word bs = line word (length bs ∷ []) ∷ component_lines 1 bs

-- the horizontal components, in version 2
abbrev pub horizontal_components : Option Components → List TextLine
horizontal_components None = []
horizontal_components (Some c) = numbered_components (codes "horizontal_components") c.horizontal

-- the vertical ones
abbrev pub vertical_components : Option Components → List TextLine
vertical_components None = []
vertical_components (Some c) = numbered_components (codes "vertical_components") c.vertical

-- a report with components is of version 2, and without them of version 1
abbrev pub version_of : {X : Type 0} → Option X → ℕ
version_of None = 1
version_of (Some x) = 2

abbrev pub version_line : Option Components → TextLine
version_line components = line (codes "btf") (version_of components ∷ [])

abbrev pub order_lines : Option (List ℕ × List ℕ) → List TextLine
order_lines None = []
order_lines (Some orders) = line (codes "row_order") (counted orders.0)
    ∷ line (codes "column_order") (counted orders.1) ∷ []

-- a pair is a line of two numbers
abbrev pub pair_line : Place → TextLine
pair_line p = line (decimal (suc p.0)) (suc p.1 ∷ [])

abbrev pub pair_lines : Option (List Place) → List TextLine
pair_lines None = []
pair_lines (Some pairs) = line (codes "pairs") (length pairs ∷ []) ∷ map pair_line pairs

abbrev pub report_lines : Report → List TextLine
report_lines r =
    version_line r.components
    ∷ matrix_line r.sizes
    ∷ rank_line r.rank
    ∷ part (codes "horizontal") r.horizontal_rows r.horizontal_cols
    ++ horizontal_components r.components
    ++ square_lines r.blocks
    ++ part (codes "vertical") r.vertical_rows r.vertical_cols
    ++ vertical_components r.components
    ++ order_lines r.orders
    ++ pair_lines r.pairs
    ++ end_line ∷ []

-- the one text of a report
abbrev pub report_text : Report → List ℕ
report_text r = text_of (report_lines r)
