-- What the texts of a matrix say: each is the text of its rank, parts and blocks as they are defined.
use Rattle.std.specs.Prelude.{◌≡◌, ◌||◌, ℕ, Bool, true, false, List, [], ◌∷◌, ◌++◌, Option, None, Some}
use Rattle.bip_defs.specs.ConnectedComponents.{AreConnectedComponents, Components}
use Rattle.bip_defs.specs.Decomposition.{Decomposition, IsDecompositionOf}
use Rattle.bip_defs.specs.LeastMatching.{IsLeastMaximum}
use Rattle.bip_defs.specs.Lists.{IsRising, Lists}
use Rattle.bip_defs.specs.Matching.{IsMaximum, IsRank, cols_of}
use Rattle.bip_defs.specs.Matrix.{Matrix, Place}
use Rattle.bip_defs.specs.Parts.{IsHorizontalCol, IsHorizontalRow}
use Rattle.bip_defs.specs.Blocks.{all_cols, all_rows}
use Rattle.bip_graph.specs.Texts.{Report, end_line, pair_lines, rank_text, report_text, sizes_of, text_of}

-- the text over the rank and the rising lists of the horizontal part
pub record IsRankText (a : Matrix) (text : List ℕ) : Type 0 where
  pub rank : ℕ
  pub rows : List ℕ
  pub cols : List ℕ
  pub is_rank : IsRank a rank
  pub are_rows : Lists (IsHorizontalRow a) rows
  pub are_cols : Lists (IsHorizontalCol a) cols
  pub spelled : text ≡ rank_text (sizes_of a) rank rows cols

-- the rows in the order in which the matrix is block upper triangular, and the columns
abbrev pub orders_of : Decomposition → List ℕ × List ℕ
orders_of d = (
  d.parts.horizontal_rows ++ all_rows d.blocks ++ d.parts.vertical_rows,
  d.parts.horizontal_cols ++ all_cols d.blocks ++ d.parts.vertical_cols,
)

abbrev pub where_asked : {X : Type 0} → Bool → X → Option X
where_asked true x = Some x
where_asked false x = None

-- what is reported of a matrix: its decomposition, and what else is asked for
abbrev pub report_of : Matrix → Decomposition → Option Components → Bool → Option (List Place)
    → Report
report_of a d components order pairs = record {
  sizes = sizes_of a;
  rank = d.rank;
  components = components;
  horizontal_rows = d.parts.horizontal_rows;
  horizontal_cols = d.parts.horizontal_cols;
  blocks = d.blocks;
  vertical_rows = d.parts.vertical_rows;
  vertical_cols = d.parts.vertical_cols;
  orders = where_asked order (orders_of d);
  pairs = pairs;
}

-- a maximum matching and, where the least one is asked for, that one
abbrev pub IsMaximumOrLeast : Matrix → Bool → List Place → Type 0
IsMaximumOrLeast a true m = IsLeastMaximum a m
IsMaximumOrLeast a false m = IsMaximum a m

-- The pairs that are listed, rising by column: those of a maximum matching where pairs are asked for, those of the least one
-- where that is, and else none.
abbrev pub ArePairs : Matrix → Bool → Bool → Option (List Place) → Type 0
ArePairs a pairs least (Some m) = (pairs || least ≡ true) × IsMaximumOrLeast a least m
    × IsRising (cols_of m)
ArePairs a pairs least None = pairs || least ≡ false

-- version 1 has no components, version 2 those of the matrix in their order
abbrev pub AreOfVersion : Matrix → ℕ → Option Components → Type 0
AreOfVersion a version None = version ≡ 1
AreOfVersion a version (Some c) = (version ≡ 2) × AreConnectedComponents a c

-- the report of a matrix in this version, with what is asked for: the orders, pairs, the least pairs
pub record IsAnalysis (a : Matrix) (version : ℕ) (order pairs least : Bool)
    (text : List ℕ) : Type 0 where
  pub decomposition : Decomposition
  pub is_decomposition : IsDecompositionOf a decomposition
  pub components : Option Components
  pub of_version : AreOfVersion a version components
  pub matching : Option (List Place)
  pub are_pairs : ArePairs a pairs least matching
  pub spelled : text ≡ report_text (report_of a decomposition components order matching)

-- the report without pairs, and before its end the lines of a maximum matching, or of the least one
pub record IsWithPairs (a : Matrix) (version : ℕ) (order least : Bool)
    (text : List ℕ) : Type 0 where
  pub prefix : List ℕ
  pub matching : List Place
  pub is_matching : IsMaximumOrLeast a least matching
  pub is_rising : IsRising (cols_of matching)
  pub is_report : IsAnalysis a version order false false (prefix ++ text_of (end_line ∷ []))
  pub spelled : text ≡ prefix ++ text_of (pair_lines (Some matching)) ++ text_of (end_line ∷ [])
