-- From what a contract says of a list of blocks to what its arrays hold, and back.
use Rattle.std.proofs.Common.{◌≡◌, ◌∙◌, ℕ, ◌+◌, ◌<◌, List, [], ◌∷◌, ◌++◌, length, get_or, sym, ap, subst, arith, length-append}
use Rattle.std.specs.List.{slice_range}
use Rattle.bip_defs.specs.Blocks.{Block, all_cols, all_rows, block_at}
use Rattle.bip_graph.specs.Blocks.{AreEnds, AreOffsets, blocks_from, start_at}
use Rattle.bip_graph.proofs.Ends.{block_cols, block_count, block_rows, blocks_more, cols_joined, ends_more, rows_joined}

-- what the arrays show
abbrev pub shown : List ℕ → List ℕ → List ℕ → List ℕ → List Block
shown row_ends col_ends rows cols = blocks_from 0 0 row_ends col_ends rows cols

pub seen_count : {row_ends col_ends rows cols : List ℕ} {bs : List Block} → AreOffsets row_ends col_ends rows cols → shown row_ends col_ends rows cols ≡ bs → length row_ends ≡ length bs
seen_count {row_ends = row_ends} {col_ends = col_ends} {rows = rows} {cols = cols} s seen = sym (block_count 0 0 row_ends col_ends rows cols s.same) ∙ ap length seen

pub seen_rows : {row_ends col_ends rows cols : List ℕ} {bs : List Block} (at : ℕ) → AreOffsets row_ends col_ends rows cols → shown row_ends col_ends rows cols ≡ bs → at < length row_ends → slice_range rows (start_at 0 row_ends at) (get_or row_ends at 0) ≡ (block_at bs at).rows
seen_rows {row_ends = row_ends} {col_ends = col_ends} {rows = rows} {cols = cols} at s seen lt = sym (block_rows 0 0 row_ends col_ends rows cols at s.same lt) ∙ ap (λ (bs : List Block). (block_at bs at).rows) seen

pub seen_cols : {row_ends col_ends rows cols : List ℕ} {bs : List Block} (at : ℕ) → AreOffsets row_ends col_ends rows cols → shown row_ends col_ends rows cols ≡ bs → at < length col_ends → slice_range cols (start_at 0 col_ends at) (get_or col_ends at 0) ≡ (block_at bs at).cols
seen_cols {row_ends = row_ends} {col_ends = col_ends} {rows = rows} {cols = cols} at s seen lt = sym (block_cols 0 0 row_ends col_ends rows cols at s.same lt) ∙ ap (λ (bs : List Block). (block_at bs at).cols) seen

pub seen_all_rows : {row_ends col_ends rows cols : List ℕ} {bs : List Block} → AreOffsets row_ends col_ends rows cols → shown row_ends col_ends rows cols ≡ bs → rows ≡ all_rows bs
seen_all_rows {row_ends = row_ends} {col_ends = col_ends} {rows = rows} {cols = cols} s seen = sym (rows_joined 0 0 row_ends col_ends rows cols s.by_row s.same) ∙ ap all_rows seen

pub seen_all_cols : {row_ends col_ends rows cols : List ℕ} {bs : List Block} → AreOffsets row_ends col_ends rows cols → shown row_ends col_ends rows cols ≡ bs → cols ≡ all_cols bs
seen_all_cols {row_ends = row_ends} {col_ends = col_ends} {rows = rows} {cols = cols} s seen = sym (cols_joined 0 0 row_ends col_ends rows cols s.by_col s.same) ∙ ap all_cols seen

-- One block more: old arrays, new arrays, and what was appended.

pub record Grown (row_ends col_ends rows cols row_ends2 col_ends2 rows2 cols2 more_rows more_cols : List ℕ) : Type 0 where
  pub rows_are : rows2 ≡ rows ++ more_rows
  pub cols_are : cols2 ≡ cols ++ more_cols
  pub row_ends_are : row_ends2 ≡ row_ends ++ (length rows + length more_rows) ∷ []
  pub col_ends_are : col_ends2 ≡ col_ends ++ (length cols + length more_cols) ∷ []

pub grown_stretches : {row_ends col_ends rows cols row_ends2 col_ends2 rows2 cols2 more_rows more_cols : List ℕ} → AreOffsets row_ends col_ends rows cols → Grown row_ends col_ends rows cols row_ends2 col_ends2 rows2 cols2 more_rows more_cols → AreOffsets row_ends2 col_ends2 rows2 cols2
grown_stretches {row_ends = row_ends} {col_ends = col_ends} {rows = rows} {cols = cols} {rows2 = rows2} {cols2 = cols2} {more_rows = more_rows} {more_cols = more_cols} s g = record {
  by_row = subst (λ z. AreEnds 0 z (length rows2)) (sym g.row_ends_are) (subst (AreEnds 0 (row_ends ++ (length rows + length more_rows) ∷ [])) (sym long_rows) (ends_more 0 row_ends (length rows) (length more_rows) s.by_row));
  by_col = subst (λ z. AreEnds 0 z (length cols2)) (sym g.col_ends_are) (subst (AreEnds 0 (col_ends ++ (length cols + length more_cols) ∷ [])) (sym long_cols) (ends_more 0 col_ends (length cols) (length more_cols) s.by_col));
  same = omega (arith, ap length g.row_ends_are, ap length g.col_ends_are, length-append row_ends ((length rows + length more_rows) ∷ []), length-append col_ends ((length cols + length more_cols) ∷ []), s.same);
}
  where
    long_rows : length rows2 ≡ length rows + length more_rows
    long_rows = ap length g.rows_are ∙ length-append rows more_rows

    long_cols : length cols2 ≡ length cols + length more_cols
    long_cols = ap length g.cols_are ∙ length-append cols more_cols

pub grown_shown : {row_ends col_ends rows cols row_ends2 col_ends2 rows2 cols2 more_rows more_cols : List ℕ} {bs : List Block} → AreOffsets row_ends col_ends rows cols → shown row_ends col_ends rows cols ≡ bs → Grown row_ends col_ends rows cols row_ends2 col_ends2 rows2 cols2 more_rows more_cols → shown row_ends2 col_ends2 rows2 cols2 ≡ bs ++ record { rows = more_rows; cols = more_cols } ∷ []
grown_shown {row_ends = row_ends} {col_ends = col_ends} {rows = rows} {cols = cols} {more_rows = more_rows} {more_cols = more_cols} s seen g =
    (λ i. shown (g.row_ends_are i) (g.col_ends_are i) (g.rows_are i) (g.cols_are i))
    ∙ blocks_more 0 0 row_ends col_ends rows cols more_rows more_cols s.by_row s.by_col s.same
    ∙ ap (λ (bs : List Block). bs ++ record { rows = more_rows; cols = more_cols } ∷ []) seen
