-- Orders with entries all along the diagonal.
use Rattle.std.proofs.Common.{◌≡◌, ◌≢◌, ◌⊎◌, ◌∙◌, ℕ, zero, suc, ◌+◌, ◌-◌, ◌<◌, ◌≤◌, List, [], ◌∷◌, ◌++◌, Bool, true, false, None, Some, length, map, set, take, get_or, refl, sym, ap, arith, subst, inl, inr, append-nil, length-append, get_or-set_same, get_or-set_other}
use Rattle.std.proofs.lemmas.List.{get_or_append_left, get_or-append-add, map-id, nil_from_length}
use Rattle.bip_defs.specs.Blocks.{Block, all_cols, all_rows, block_at, no_block}
use Rattle.bip_defs.specs.Bottleneck.{IsFull}
use Rattle.bip_defs.specs.Decomposition.{Decomposition, IsDecompositionOf}
use Rattle.bip_defs.specs.Lists.{Among, AreDistinct}
use Rattle.bip_defs.specs.Matching.{IsMatching}
use Rattle.bip_defs.specs.Matrix.{Matrix, Place, cols}
use Rattle.bip_defs.specs.Once.{ListsOnce}
use Rattle.bip_defs.specs.Parts.{IsSquareCol}
use Rattle.bip_defs.proofs.Full.{all_below}
use Rattle.bip_defs.proofs.Paired.{block_square, maximum_pairs}
use Rattle.bip_defs.proofs.Queues.{distinct_at}
use Rattle.bip_defs.proofs.Sets.{among_at, number_same, one_col, one_row, place_among}
use Rattle.bip_defs.proofs.Together.{square_cols_once}
use Rattle.bip_defs.proofs.Triangular.{cols_once}
use Rattle.bip_graph.specs.Answers.{orders_of}
use Rattle.bip_graph.specs.Orders.{rows_before}
use Rattle.blocktri.specs.Answers.{AreBlockStarts, Fills}
use Rattle.blocktri.specs.BlockOrders.{AreMatesOf, IsRowOrder, LeavesOrders, OrderLists, TellsBlockOrder}
use Rattle.blocktri.specs.Compressed.{IsRoom}
use Rattle.blocktri.specs.Forms.{TellsIf}
use Rattle.blocktri.proofs.PerfectLemmas.{full_is_maximum, square_col}
use Rattle.blocktri.proofs.WriteLemmas.{before_more, before_within, once_long}

-- Where there is a perfect matching.

-- all columns are square, so the blocks have each column once
pub all_cols_once : (a : Matrix) (d : Decomposition) (m : List Place) → IsDecompositionOf a d → IsFull a m → ListsOnce (λ c. c < cols a) (all_cols d.blocks)
all_cols_once a d m is full = record {
  distinct = once.distinct;
  sound = λ c h. (once.sound c h).0;
  complete = λ c lt. once.complete c (square_col a m full c lt);
}
  where
    once : ListsOnce (IsSquareCol a) (all_cols d.blocks)
    once = square_cols_once a d.blocks is.blocks

-- and the order of the columns has those of the blocks alone
pub columns_of_blocks : (a : Matrix) (d : Decomposition) (m : List Place) → IsDecompositionOf a d → IsFull a m → (orders_of d).1 ≡ all_cols d.blocks
columns_of_blocks a d m is full =
    let all = once_long (cols a) (all_cols d.blocks) (all_cols_once a d m is full) in
    let parts = once_long (cols a) (d.parts.horizontal_cols ++ (all_cols d.blocks ++ d.parts.vertical_cols)) (cols_once a d is) in
    let outer = length-append d.parts.horizontal_cols (all_cols d.blocks ++ d.parts.vertical_cols) in
    let inner = length-append (all_cols d.blocks) d.parts.vertical_cols in
    let left = nil_from_length d.parts.horizontal_cols (omega (arith, all, parts, outer, inner)) in
    let right = nil_from_length d.parts.vertical_cols (omega (arith, all, parts, outer, inner)) in
    rw (left, right) (append-nil (all_cols d.blocks))

pub before_shift : (b : Block) (bs : List Block) (i : ℕ) → rows_before (b ∷ bs) (suc i) ≡ length b.rows + rows_before bs i
before_shift b bs i = length-append b.rows (all_rows (take i bs))

-- in the places of a block's rows stand its columns, where each block has as many of both
pub column_in_block : (bs : List Block) (i k : ℕ) → ((b : Block) → Among b bs → length b.rows ≡ length b.cols) → i < length bs → rows_before bs i ≤ k → k < rows_before bs (i + 1) → Among (get_or (all_cols bs) k 0) (block_at bs i).cols
column_in_block [] i k same lt from to = absurd (omega (arith, lt))
column_in_block (b ∷ bs) zero k same lt from to =
    let more = before_more (b ∷ bs) 0 lt in
    let none : rows_before (b ∷ bs) 0 ≡ 0 = refl in
    let equal = same b (inl refl) in
    let within : k < length b.cols = omega (arith, more, none, equal, to) in
    subst (λ c. Among c b.cols) (sym (get_or_append_left b.cols (all_cols bs) 0 k within)) (among_at b.cols k 0 within)
column_in_block (b ∷ bs) (suc i) k same lt from to =
    let equal = same b (inl refl) in
    let here = before_shift b bs i in
    let next = ap (λ j. rows_before (b ∷ bs) j) (let e : suc i + 1 ≡ suc (i + 1) = omega arith in e) ∙ before_shift b bs (i + 1) in
    let at : length b.cols + (k - length b.cols) ≡ k = omega (arith, equal, here, from) in
    subst (λ c. Among c (block_at bs i).cols) (sym (ap (λ j. get_or (b.cols ++ all_cols bs) j 0) (sym at) ∙ get_or-append-add b.cols (all_cols bs) (k - length b.cols) 0))
    (column_in_block bs i (k - length b.cols) (λ d h. same d (inr h)) (omega (arith, lt)) (omega (arith, equal, here, from)) (omega (arith, equal, here, from, next, to)))

-- blocks that have each as many rows as columns have together as many
pub all_same : (bs : List Block) → ((b : Block) → Among b bs → length b.rows ≡ length b.cols) → length (all_rows bs) ≡ length (all_cols bs)
all_same [] same = refl
all_same (b ∷ bs) same =
    let rows = length-append b.rows (all_rows bs) in
    let columns = length-append b.cols (all_cols bs) in
    let rest = all_same bs (λ d h. same d (inr h)) in
    let here = same b (inl refl) in
    omega (arith, rows, columns, rest, here)

distinct_if : (xs : List ℕ) → ((i j : ℕ) → i < j → j < length xs → get_or xs i 0 ≢ get_or xs j 0) → AreDistinct xs
distinct_if [] differ = tt
distinct_if (x ∷ xs) differ = (
  λ h. let (k, lt, e) = place_among x 0 xs h in differ 0 (suc k) (omega arith) (omega (arith, lt)) (sym e),
  distinct_if xs (λ i j lt within. differ (suc i) (suc j) (omega (arith, lt)) (omega (arith, within))),
)

-- the mates of distinct columns are distinct
pub mates_distinct : (a : Matrix) (m : List Place) (columns rows : List ℕ) → IsMatching a m → AreDistinct columns → length rows ≡ length columns → AreMatesOf m columns rows → AreDistinct rows
mates_distinct a m columns rows matching once long mates = distinct_if rows (λ i j lt within e.
    let inside : j < length columns = omega (arith, long, within) in
    let first = mates i (omega (arith, lt, inside)) in
    let second = mates j inside in
    distinct_at columns i j once lt inside (one_col m matching.rows_differ (get_or rows j 0) (get_or columns i 0) (get_or columns j 0) (subst (λ r. Among {X = Place} (r, get_or columns i 0) m) e first) second))

mates_once : (a : Matrix) (m : List Place) (columns rows : List ℕ) → IsMatching a m → AreDistinct columns → length columns ≡ a.rows → length rows ≡ length columns → AreMatesOf m columns rows → ListsOnce (λ r. r < a.rows) rows
mates_once a m columns rows matching once all long mates = record {
  distinct = distinct;
  sound = sound;
  complete = all_below a.rows rows distinct sound (omega (arith, all, long));
}
  where
    distinct : AreDistinct rows
    distinct = mates_distinct a m columns rows matching once long mates

    sound : (r : ℕ) → Among r rows → r < a.rows
    sound r h = let (k, lt, e) = place_among r 0 rows h in subst (λ s. s < a.rows) e (matching.entries (get_or rows k 0) (get_or columns k 0) (mates k (omega (arith, lt, long)))).0

-- Writing mates.

-- the first n places have the mates of the first n columns
abbrev pub AreMatesBelow : ℕ → List Place → List ℕ → List ℕ → Type 0
AreMatesBelow n m columns rows = (k : ℕ) → k < n → Among (get_or rows k 0, get_or columns k 0) m

pub mates_more : (m : List Place) (columns rows : List ℕ) (n r : ℕ) → n < length rows → Among (r, get_or columns n 0) m → AreMatesBelow n m columns rows → AreMatesBelow (n + 1) m columns (set rows n r)
mates_more m columns rows n r inside on had k lt = by (number_same k n)
  where
    by : (k ≡ n) ⊎ (k ≢ n) → Among (get_or (set rows n r) k 0, get_or columns k 0) m
    by (inl e) = rw (e, get_or-set_same rows n r 0 inside) on
    by (inr ne) = rw (get_or-set_other rows n k r 0 ne) (had k (omega (arith, lt, ne)))

-- The order of the columns.

-- three lists of numbers behind one another
pub three_same : (x y z a b c : List ℕ) → x ≡ a → y ≡ b → z ≡ c → map (λ (n : ℕ). n) x ++ map (λ (n : ℕ). n) y ++ map (λ (n : ℕ). n) z ≡ a ++ b ++ c
three_same x y z a b c e f g = rw (map-id x, map-id y, map-id z, e, f, g) refl

-- The order of the rows.

-- the mates of the columns of the blocks, in their order
pub mates_order : (a : Matrix) (d : Decomposition) (m : List Place) (rows : List ℕ) → IsDecompositionOf a d → IsFull a m → a.rows ≡ cols a → length rows ≡ a.rows → AreMatesOf m (all_cols d.blocks) rows → IsRowOrder a d m rows
mates_order a d m rows is full square long mates = record {
  once = mates_once a m (all_cols d.blocks) rows full.matching once.distinct (omega (arith, wide, square)) (omega (arith, wide, square, long)) mates;
  diagonal = subst (λ (xs : List ℕ). AreMatesOf m xs rows) (sym (columns_of_blocks a d m is full)) mates;
  of_blocks = in_blocks;
}
  where
    once : ListsOnce (λ c. c < cols a) (all_cols d.blocks)
    once = all_cols_once a d m is full

    wide : length (all_cols d.blocks) ≡ cols a
    wide = once_long (cols a) (all_cols d.blocks) once

    same : (b : Block) → Among b d.blocks → length b.rows ≡ length b.cols
    same b h = block_square a d b is h

    in_blocks : (b k : ℕ) → b < length d.blocks → rows_before d.blocks b ≤ k → k < rows_before d.blocks (b + 1) → Among (get_or rows k 0) (block_at d.blocks b).rows
    in_blocks b k lt from to =
        let on = among_at d.blocks b no_block lt in
        let column = column_in_block d.blocks b k same lt from to in
        let (r, pair, row) = (maximum_pairs a d m (block_at d.blocks b) is (full_is_maximum a m full) on).cols (get_or (all_cols d.blocks) k 0) column in
        let most = before_within d.blocks (b + 1) in
        let equal = all_same d.blocks same in
        subst (λ (s : ℕ). Among s (block_at d.blocks b).rows) (one_row m full.matching.cols_differ r (get_or rows k 0) (get_or (all_cols d.blocks) k 0) pair (mates k (omega (arith, to, most, equal)))) row

-- What is told.

-- the orders of a square matrix, from what is written of its blocks and a perfect matching
pub order_told : (a : Matrix) (d : Decomposition) (m : List Place) (count : ℕ) (old new : OrderLists) → IsDecompositionOf a d → IsFull a m → a.rows ≡ cols a → IsRoom (cols a) old.row_order → count ≡ length d.blocks
    → Fills old.row_order new.row_order (AreMatesOf m (all_cols d.blocks) new.row_order) → Fills old.column_order new.column_order (new.column_order ≡ all_cols d.blocks)
    → Fills old.block_starts new.block_starts (AreBlockStarts d.blocks old.block_starts new.block_starts) → TellsBlockOrder a m (Some count) old new
order_told a d m count old new is full square room counted rows columns starts = record {
  decomposition = d;
  is_decomposition = is;
  count_is = ap (λ (n : ℕ). Some n) counted;
  rows = record {
    long = rows.long;
    holds = λ some. let long = rows.long in mates_order a d m new.row_order is full square (omega (arith, room, some, long, square)) (rows.holds some);
  };
  columns = record { long = columns.long; holds = λ some. columns.holds some ∙ sym (columns_of_blocks a d m is full) };
  starts = starts;
}

-- where the blocks are not wanted, none of them are told
pub order_left : (wanted : Bool) (P : Type 0) (old new : OrderLists) → (wanted ≡ true → ⊥) → new.row_order ≡ old.row_order → new.column_order ≡ old.column_order → new.block_starts ≡ old.block_starts → TellsIf wanted P (LeavesOrders None old new)
order_left true P old new not_wanted rows columns starts = absurd (not_wanted refl)
order_left false P old new not_wanted rows columns starts = record { count_is = refl; rows = rows; columns = columns; starts = starts }
