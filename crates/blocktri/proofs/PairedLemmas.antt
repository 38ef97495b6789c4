-- Blocks and orders by pairs that count as entries.
use Rattle.std.proofs.Common.{◌≡◌, ◌≢◌, ◌⊎◌, ◌∙◌, ℕ, zero, suc, ◌+◌, ◌-◌, ◌<◌, ◌≤◌, Bool, true, false, List, [], ◌∷◌, ◌++◌, length, set, get_or, refl, sym, ap, arith, subst, inl, inr, length-append, get_or-set_same, get_or-set_other}
use Rattle.std.proofs.Math.Seq.{ext_get_or}
use Rattle.std.proofs.lemmas.List.{get_or_append_left, get_or-append-add, length-map}
use Rattle.bip_defs.specs.Blocks.{Block, all_rows, block_at, no_block}
use Rattle.bip_defs.specs.Decomposition.{IsDecompositionOf}
use Rattle.bip_defs.specs.Lists.{Among, AreDistinct, Lists}
use Rattle.bip_defs.specs.Matching.{IsMatching, cols_of, rows_of, transposed_places}
use Rattle.bip_defs.specs.Matrix.{AreEntries, HasPlaces, IsEntry, Matrix, Place, cols, column, transpose}
use Rattle.bip_defs.specs.Once.{ListsOnce}
use Rattle.bip_defs.specs.Parts.{IsSquareRow}
use Rattle.bip_defs.proofs.Full.{all_below}
use Rattle.bip_defs.proofs.Paired.{maximum_pairs}
use Rattle.bip_defs.proofs.Sets.{among_at, col_among, col_pair, entry_col, number_same, one_col, place_among, row_pair, upto_lists}
use Rattle.bip_defs.proofs.Together.{square_rows_once}
use Rattle.bip_defs.proofs.Transposed.{transpose_is, turned_among, turned_matching, turned_places}
use Rattle.bip_graph.specs.Matching.{IsMaximumOf, Pairing}
use Rattle.bip_graph.specs.Orders.{rows_before}
use Rattle.blocktri.specs.Answers.{AreBlockStarts, Fills}
use Rattle.blocktri.specs.BlockOrders.{AreMatesOf, OrderLists}
use Rattle.blocktri.specs.Compressed.{CompressedLists, IsRoom, listed, matrix_given, transpose_if}
use Rattle.blocktri.specs.PairedOrders.{ArePairedBlocks, IsPairedColumnOrder, TellsPairedOrder}
use Rattle.blocktri.specs.SquareForms.{square_decomposition}
use Rattle.blocktri.specs.PerfectMatchings.{IsPerfectMatching}
use Rattle.blocktri.specs.Written.{IsPut}
use Rattle.blocktri.proofs.DiagonalOrderLemmas.{before_shift, mates_distinct}
use Rattle.blocktri.proofs.PerfectLemmas.{perfect_full}
use Rattle.blocktri.proofs.WriteLemmas.{before_more, before_within, few_blocks, once_long}
use Rattle.filled_columns.specs.Completed.{Completes}
use Rattle.filled_columns.specs.Filled.{IsFullPairing, filled}
use Rattle.sp_pattern.specs.Columns.{places_of}

-- The columns that are given rise.

turned_rising : (by_rows : Bool) (rows n : ℕ) (places : List Place) (a : Matrix) → HasPlaces rows n places a → (c : ℕ) → Lists (λ r. IsEntry (transpose_if by_rows a) r c) (column (transpose_if by_rows a) c)
turned_rising true rows n places a has = (turned_places rows n places a has).columns
turned_rising false rows n places a has = has.columns

pub given_rising : (l : CompressedLists) → HasPlaces l.others (length l.starts - 1) (places_of l.starts l.ids) (listed l) → (c : ℕ) → Lists (λ r. IsEntry (matrix_given l) r c) (column (matrix_given l) c)
given_rising l has = turned_rising l.by_rows l.others (length l.starts - 1) (places_of l.starts l.ids) (listed l) has

-- Perfect matchings.

-- one has each row and each column once
pub perfect_pairing : (a : Matrix) (m : Pairing) → IsPerfectMatching a m → IsFullPairing a m
perfect_pairing a m is =
    let full = perfect_full a m is in
    record {
      rows_are = is.maximum.matching.rows;
      cols_are = is.maximum.matching.cols;
      square = is.square;
      rows = record { distinct = full.matching.rows_differ; sound = λ r h. let (c, p) = row_pair r m.pairs h in (full.matching.entries r c p).0; complete = full.all_rows };
      columns = record { distinct = full.matching.cols_differ; sound = λ c h. let (r, p) = col_pair c m.pairs h in entry_col a r c (full.matching.entries r c p); complete = full.all_cols };
    }

-- it is complete
pub perfect_completes : (a : Matrix) (m : Pairing) → IsPerfectMatching a m → Completes a m.pairs m.pairs
perfect_completes a m is =
    let full = perfect_pairing a m is in
    record {
      rows = full.rows;
      columns = full.columns;
      keeps = λ p h. h;
      no_entries = λ p h out. absurd (out h);
      in_step = λ p q h k out. absurd (out h);
    }

-- the blocks of the matrix are those of the matrix filled with its pairs
pub perfect_told : (a : Matrix) (m : Pairing) (blocks : List Block) → filled a m.pairs ≡ a → IsPerfectMatching a m → IsDecompositionOf a (square_decomposition a.rows blocks) → ArePairedBlocks a m blocks
perfect_told a m blocks same is d = record {
  full = perfect_pairing a m is;
  decomposition = subst (λ (b : Matrix). IsDecompositionOf b (square_decomposition a.rows blocks)) (sym same) d;
}

-- Filled matrices.

-- pairs of all rows and columns are a perfect matching of the matrix filled with them
pub full_perfect : (a : Matrix) (m : Pairing) → IsFullPairing a m → IsMaximumOf (filled a m.pairs) m → IsPerfectMatching (filled a m.pairs) m
full_perfect a m k max = record {
  maximum = max;
  square = sym max.matching.rows ∙ k.rows_are ∙ k.square ∙ sym k.cols_are ∙ max.matching.cols;
  full = sym (length-map m.pairs (λ (p : Place). p.0)) ∙ once_long a.rows (rows_of m.pairs) k.rows ∙ sym k.rows_are ∙ max.matching.rows;
}

pub filled_told : (a : Matrix) (m : Pairing) (blocks : List Block) → IsFullPairing a m → IsMaximumOf (filled a m.pairs) m → IsDecompositionOf (filled a m.pairs) (square_decomposition (filled a m.pairs).rows blocks) → ArePairedBlocks a m blocks
filled_told a m blocks k max d = record {
  full = k;
  decomposition = subst (λ (n : ℕ). IsDecompositionOf (filled a m.pairs) (square_decomposition n blocks)) (sym max.matching.rows ∙ k.rows_are) d;
}

-- Blocks.

-- in the places of a block's rows stand its rows
pub row_in_block : (bs : List Block) (i k : ℕ) → i < length bs → rows_before bs i ≤ k → k < rows_before bs (i + 1) → Among (get_or (all_rows bs) k 0) (block_at bs i).rows
row_in_block [] i k lt from to = absurd (omega (arith, lt))
row_in_block (b ∷ bs) zero k lt from to =
    let more = before_more (b ∷ bs) 0 lt in
    let none : rows_before (b ∷ bs) 0 ≡ 0 = refl in
    let within : k < length b.rows = omega (arith, more, none, to) in
    subst (λ r. Among r b.rows) (sym (get_or_append_left b.rows (all_rows bs) 0 k within)) (among_at b.rows k 0 within)
row_in_block (b ∷ bs) (suc i) k lt from to =
    let here = before_shift b bs i in
    let next = ap (λ j. rows_before (b ∷ bs) j) (let e : suc i + 1 ≡ suc (i + 1) = omega arith in e) ∙ before_shift b bs (i + 1) in
    let at : length b.rows + (k - length b.rows) ≡ k = omega (arith, here, from) in
    subst (λ r. Among r (block_at bs i).rows) (sym (ap (λ j. get_or (b.rows ++ all_rows bs) j 0) (sym at) ∙ get_or-append-add b.rows (all_rows bs) (k - length b.rows) 0))
    (row_in_block bs i (k - length b.rows) (omega (arith, lt)) (omega (arith, here, from)) (omega (arith, here, from, next, to)))

-- the blocks have each row once
pub rows_in_blocks : (a : Matrix) (m : Pairing) (blocks : List Block) → ArePairedBlocks a m blocks → ListsOnce (λ r. r < a.rows) (all_rows blocks)
rows_in_blocks a m blocks is = record {
  distinct = once.distinct;
  sound = λ r h. (upto_lists a.rows).sound r (is.decomposition.parts.square_rows.complete r (once.sound r h));
  complete = λ r lt. once.complete r (is.decomposition.parts.square_rows.sound r ((upto_lists a.rows).complete r lt));
}
  where
    once : ListsOnce (IsSquareRow (filled a m.pairs)) (all_rows blocks)
    once = square_rows_once (filled a m.pairs) blocks is.decomposition.blocks

pub row_count_of : (a : Matrix) (m : Pairing) (blocks : List Block) → ArePairedBlocks a m blocks → length (all_rows blocks) ≡ m.rows
row_count_of a m blocks is = once_long a.rows (all_rows blocks) (rows_in_blocks a m blocks is) ∙ sym is.full.rows_are

-- there are no more blocks than columns
pub block_count : (a : Matrix) (m : Pairing) (blocks : List Block) → ArePairedBlocks a m blocks → IsMaximumOf (filled a m.pairs) m → length blocks ≤ m.cols
block_count a m blocks is max = subst (λ n. length blocks ≤ n) (sym max.matching.cols) (few_blocks (filled a m.pairs) (square_decomposition a.rows blocks) is.decomposition)

-- The mates of the rows.

module _ (a : Matrix) (m : Pairing) (blocks : List Block) (columns : List ℕ) (is : ArePairedBlocks a m blocks) (max : IsMaximumOf (filled a m.pairs) m) (long : length columns ≡ cols a) (mates : AreMatesOf m.pairs columns (all_rows blocks)) where
  high : length (all_rows blocks) ≡ cols a
  high = once_long a.rows (all_rows blocks) (rows_in_blocks a m blocks is) ∙ is.full.square

  distinct : AreDistinct columns
  distinct = mates_distinct (transpose (filled a m.pairs)) (transposed_places m.pairs) (all_rows blocks) columns (turned_matching (filled a m.pairs) (transpose (filled a m.pairs)) m.pairs (transpose_is (filled a m.pairs)) max.matching.matching)
      (rows_in_blocks a m blocks is).distinct (long ∙ sym high) (λ k lt. turned_among (get_or (all_rows blocks) k 0) (get_or columns k 0) m.pairs (mates k (omega (arith, lt, long, high))))

  sound : (c : ℕ) → Among c columns → c < cols a
  sound c h = let (k, lt, e) = place_among c 0 columns h in subst (λ d. d < cols a) e (is.full.columns.sound (get_or columns k 0) (col_among (get_or (all_rows blocks) k 0) (get_or columns k 0) m.pairs (mates k lt)))

  in_blocks : (b k : ℕ) → b < length blocks → rows_before blocks b ≤ k → k < rows_before blocks (b + 1) → Among (get_or columns k 0) (block_at blocks b).cols
  in_blocks b k lt from to =
      let row = row_in_block blocks b k lt from to in
      let (c, pair, col) = (maximum_pairs (filled a m.pairs) (square_decomposition a.rows blocks) m.pairs (block_at blocks b) is.decomposition max.maximum (among_at blocks b no_block lt)).rows (get_or (all_rows blocks) k 0) row in
      let most = before_within blocks (b + 1) in
      subst (λ (d : ℕ). Among d (block_at blocks b).cols) (one_col m.pairs is.full.rows.distinct (get_or (all_rows blocks) k 0) c (get_or columns k 0) pair (mates k (omega (arith, to, most, high, long)))) col

  pub column_order : IsPairedColumnOrder a blocks m.pairs columns
  column_order = record {
    once = record { distinct = distinct; sound = sound; complete = all_below (cols a) columns distinct sound (omega (arith, long)) };
    diagonal = mates;
    of_blocks = in_blocks;
  }

-- What is told.

pub paired_told : (a : Matrix) (m : Pairing) (blocks : List Block) (count : ℕ) (old new : OrderLists) → ArePairedBlocks a m blocks → count ≡ length blocks
    → Fills old.row_order new.row_order (new.row_order ≡ all_rows blocks) → Fills old.column_order new.column_order (IsPairedColumnOrder a blocks m.pairs new.column_order)
    → Fills old.block_starts new.block_starts (AreBlockStarts blocks old.block_starts new.block_starts) → TellsPairedOrder a m count old new
paired_told a m blocks count old new is number rows columns starts =
    record { blocks = blocks; are_blocks = is; count_is = number; rows = rows; columns = columns; starts = starts }

-- the columns that are written
pub columns_told : (a : Matrix) (m : Pairing) (blocks : List Block) (old new rows : List ℕ) → ArePairedBlocks a m blocks → IsMaximumOf (filled a m.pairs) m → IsRoom m.cols old → rows ≡ all_rows blocks → Fills old new (AreMatesOf m.pairs new rows) → Fills old new (IsPairedColumnOrder a blocks m.pairs new)
columns_told a m blocks old new rows is max room same fills = record {
  long = fills.long;
  holds = λ some. let long = fills.long in let broad = is.full.cols_are in column_order a m blocks new is max (omega (arith, room, some, long, broad)) (subst (λ (xs : List ℕ). AreMatesOf m.pairs new xs) same (fills.holds some));
}

-- one mate more
pub col_more : (m : List Place) (rows columns : List ℕ) (n c : ℕ) → n < length columns → Among (get_or rows n 0, c) m → ((k : ℕ) → k < n → Among (get_or rows k 0, get_or columns k 0) m) → (k : ℕ) → k < n + 1 → Among (get_or rows k 0, get_or (set columns n c) k 0) m
col_more m rows columns n c inside on had k lt = by (number_same k n)
  where
    by : (k ≡ n) ⊎ (k ≢ n) → Among (get_or rows k 0, get_or (set columns n c) k 0) m
    by (inl e) = rw (e, get_or-set_same columns n c 0 inside) on
    by (inr ne) = rw (get_or-set_other columns n k c 0 ne) (had k (omega (arith, lt, ne)))
