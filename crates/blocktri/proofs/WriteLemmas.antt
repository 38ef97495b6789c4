-- Lists that are written for the caller.
use Rattle.std.proofs.Common.{◌≡◌, ◌≢◌, ◌⊎◌, ◌↔◌, ◌∙◌, ℕ, zero, suc, ◌+◌, ◌-◌, ◌<◌, ◌≤◌, ◌^◌, List, [], ◌∷◌, ◌++◌, length, set, take, get_or, sym, ap, arith, subst, inl, inr, length-append, length-set, get_or-set_same, get_or-set_other}
use Rattle.std.proofs.Math.Decide.{dec_lt}
use Rattle.std.proofs.Math.Seq.{ext_get_or}
use Rattle.std.proofs.lemmas.List.{get_or_append_left, get_or-append-add, get_or-take, length-take-le, take_more}
use Rattle.bip_defs.specs.Blocks.{Block, IsBlock, all_cols, all_rows, block_at, no_block}
use Rattle.bip_defs.specs.Decomposition.{Decomposition, IsDecompositionOf}
use Rattle.bip_defs.specs.Lists.{Among}
use Rattle.bip_defs.specs.Matching.{cols_of}
use Rattle.bip_defs.specs.Matrix.{Matrix, Place, cols, upto}
use Rattle.bip_defs.specs.Once.{ListsOnce}
use Rattle.bip_defs.proofs.Full.{few_below}
use Rattle.bip_defs.proofs.Sets.{col_among, few_distinct, number_same, one_row, pigeonhole, place_among, rising_distinct, upto_length, upto_lists, upto_rising}
use Rattle.bip_defs.proofs.Square.{square_pairs_perfect}
use Rattle.bip_defs.proofs.Uniqueness.{block_has_col, blocks_share_col, chain_square}
use Rattle.bip_defs.proofs.Together.{more_rows}
use Rattle.bip_graph.specs.Answers.{orders_of}
use Rattle.bip_graph.specs.Matching.{IsPairing, Pairing, none}
use Rattle.bip_graph.specs.Orders.{rows_before}
use Rattle.blocktri.specs.Written.{IsPut}

-- Orders.

-- one number more is written
pub put_more : (at k v : ℕ) (xs old new : List ℕ) → k < length xs → at + length xs ≤ length old → v ≡ get_or xs k 0 → IsPut at (take k xs) old new → IsPut at (take (k + 1) xs) old (set new (at + k) v)
put_more at k v xs old new lt room is put = record {
  long = length-set new (at + k) v ∙ put.long;
  here = λ i h. at_place i (number_same i k) h;
  others = λ i out. get_or-set_other new (at + k) i v 0 (beside i out) ∙ put.others i (outside i out);
}
  where
    few : length (take k xs) ≡ k
    few = length-take-le k xs (omega (arith, lt))

    more : length (take (k + 1) xs) ≡ k + 1
    more = length-take-le (k + 1) xs (omega (arith, lt))

    at_place : (i : ℕ) → (i ≡ k) ⊎ (i ≢ k) → i < length (take (k + 1) xs) → get_or (set new (at + k) v) (at + i) 0 ≡ get_or (take (k + 1) xs) i 0
    at_place i (inl same) h = let e = put.long in rw same (get_or-set_same new (at + k) v 0 (omega (arith, e, lt, room)) ∙ is ∙ sym (get_or-take (k + 1) xs k 0 (omega arith)))
    at_place i (inr ne) h = get_or-set_other new (at + k) (at + i) v 0 (λ e. ne (omega (arith, e))) ∙ put.here i (omega (arith, few, more, h, ne)) ∙ get_or-take k xs i 0 (omega (arith, more, h, ne)) ∙ sym (get_or-take (k + 1) xs i 0 (omega (arith, more, h)))

    beside : (i : ℕ) → (i < at) ⊎ (at + length (take (k + 1) xs) ≤ i) → i ≢ at + k
    beside i (inl before) e = omega (arith, before, e)
    beside i (inr behind) e = omega (arith, more, behind, e)

    outside : (i : ℕ) → (i < at) ⊎ (at + length (take (k + 1) xs) ≤ i) → (i < at) ⊎ (at + length (take k xs) ≤ i)
    outside i (inl before) = inl before
    outside i (inr behind) = inr (omega (arith, few, more, behind))

-- three lists that are written one behind the other
pub three_put : (a b c zero_out one two three : List ℕ) → length zero_out ≡ length a + length b + length c → IsPut 0 a zero_out one → IsPut (length a) b one two → IsPut (length a + length b) c two three → three ≡ a ++ b ++ c
three_put a b c zero_out one two three long p q r = ext_get_or 0 three (a ++ b ++ c) (let x = p.long in let y = q.long in let z = r.long in rw (length-append, length-append) (omega (arith, long, x, y, z))) (λ i lt. by i (dec_lt i (length a)) (dec_lt i (length a + length b)) lt)
  where
    both : length (a ++ b) ≡ length a + length b
    both = length-append a b

    by : (i : ℕ) → Dec (i < length a) → Dec (i < length a + length b) → i < length three → get_or three i 0 ≡ get_or (a ++ b ++ c) i 0
    by i (yes first) d lt =
        r.others i (inl (omega (arith, first))) ∙ q.others i (inl first) ∙ ap (λ j. get_or one j 0) (let z : i ≡ 0 + i = omega arith in z) ∙ p.here i first
        ∙ sym (get_or_append_left a b 0 i first) ∙ sym (get_or_append_left (a ++ b) c 0 i (omega (arith, both, first)))
    by i (no late) (yes middle) lt =
        let at : length a + (i - length a) ≡ i = omega (arith, late) in
        r.others i (inl middle) ∙ ap (λ j. get_or two j 0) (sym at) ∙ q.here (i - length a) (omega (arith, late, middle))
        ∙ sym (get_or-append-add a b (i - length a) 0) ∙ ap (λ j. get_or (a ++ b) j 0) at ∙ sym (get_or_append_left (a ++ b) c 0 i (omega (arith, both, middle)))
    by i (no late) (no later) lt =
        let at : length a + length b + (i - (length a + length b)) ≡ i = omega (arith, later) in
        let back : length (a ++ b) + (i - (length a + length b)) ≡ i = omega (arith, both, later) in
        let x = p.long in
        let y = q.long in
        let z = r.long in
        ap (λ j. get_or three j 0) (sym at) ∙ r.here (i - (length a + length b)) (omega (arith, later, lt, long, x, y, z))
        ∙ sym (get_or-append-add (a ++ b) c (i - (length a + length b)) 0) ∙ ap (λ j. get_or (a ++ b ++ c) j 0) back

-- the same, where the places are the lengths of other lists
pub orders_put : (a b c out one two three : List ℕ) (i j : ℕ) → length out ≡ length a + length b + length c → i ≡ length a → j ≡ length a + length b → IsPut 0 a out one → IsPut i b one two → IsPut j c two three → three ≡ a ++ b ++ c
orders_put a b c out one two three i j long at_b at_c p q r = three_put a b c out one two three long p (subst (λ n. IsPut n b one two) at_b q) (subst (λ n. IsPut n c two three) at_c r)

-- a list that has each number below n once is as long
pub once_long : (n : ℕ) (xs : List ℕ) → ListsOnce (λ x. x < n) xs → length xs ≡ n
once_long n xs once =
    let few = few_below n xs once.distinct once.sound in
    let many = few_distinct (upto n) xs (rising_distinct (upto n) (upto_rising 0 n)) (λ x h. once.complete x ((upto_lists n).sound x h)) in
    let long = upto_length 0 n in
    omega (arith, few, many, long)

-- the order of the rows is as long as the matrix has rows
pub rows_long : (a : Matrix) (d : Decomposition) → ListsOnce (λ r. r < a.rows) (orders_of d).0 → length d.parts.horizontal_rows + length (all_rows d.blocks) + length d.parts.vertical_rows ≡ a.rows
rows_long a d once =
    let long : length (d.parts.horizontal_rows ++ all_rows d.blocks ++ d.parts.vertical_rows) ≡ a.rows = once_long a.rows (orders_of d).0 once in
    let x = length-append (d.parts.horizontal_rows ++ all_rows d.blocks) d.parts.vertical_rows in
    let y = length-append d.parts.horizontal_rows (all_rows d.blocks) in
    omega (arith, long, x, y)

-- the order of the columns is as long as the matrix has columns
pub cols_long : (a : Matrix) (d : Decomposition) → ListsOnce (λ c. c < cols a) (orders_of d).1 → length d.parts.horizontal_cols + length (all_cols d.blocks) + length d.parts.vertical_cols ≡ cols a
cols_long a d once =
    let long : length (d.parts.horizontal_cols ++ all_cols d.blocks ++ d.parts.vertical_cols) ≡ cols a = once_long (cols a) (orders_of d).1 once in
    let x = length-append (d.parts.horizontal_cols ++ all_cols d.blocks) d.parts.vertical_cols in
    let y = length-append d.parts.horizontal_cols (all_cols d.blocks) in
    omega (arith, long, x, y)

-- each block has a column
pub block_filled : (a : Matrix) (d : Decomposition) (b : Block) → IsDecompositionOf a d → Among b d.blocks → 1 ≤ length b.cols
block_filled a d b is on =
    let (m, max, size) = is.rank in
    let (c, h) = block_has_col a _ b (square_pairs_perfect a m d.parts.square_rows max is.parts.square_rows) (is.blocks.sound b on) in
    let (k, lt, e) = place_among c 0 b.cols h in
    omega (arith, lt)

-- at most as many blocks as columns, since each has a column of its own
pub few_blocks : (a : Matrix) (d : Decomposition) → IsDecompositionOf a d → length d.blocks ≤ cols a
few_blocks a d is =
    let (m, max, size) = is.rank in
    let perfect = square_pairs_perfect a m d.parts.square_rows max is.parts.square_rows in
    let most = pigeonhole (λ (b : Block) (c : ℕ). IsBlock a b × Among c b.cols) (λ b e c x y. blocks_share_col a b e c x.0 y.0 x.1 y.1) d.blocks (upto (cols a)) is.blocks.distinct
    (λ b on. let block = is.blocks.sound b on in let (c, h) = block_has_col a _ b perfect block in (c, (upto_lists (cols a)).complete c (chain_square a block.1.square (block.1.cols.sound c h)).0, (block, h))) in
    let long = upto_length 0 (cols a) in
    omega (arith, most, long)

-- Block starts.

pub before_more : (bs : List Block) (i : ℕ) → i < length bs → rows_before bs (i + 1) ≡ rows_before bs i + length (block_at bs i).rows
before_more bs i lt = ap (λ ds. length (all_rows ds)) (take_more bs i no_block lt) ∙ more_rows (take i bs) (block_at bs i)

pub before_within : (bs : List Block) (i : ℕ) → rows_before bs i ≤ length (all_rows bs)
before_within bs zero = omega arith
before_within [] (suc i) = omega arith
before_within (b ∷ bs) (suc i) = let rest = before_within bs i in rw (length-append, length-append) (omega (arith, rest))

-- the first blocks have their starts, and the next start is known
pub record AreStartsBelow (blocks : List Block) (old new : List ℕ) (start n : ℕ) : Type 0 where
  pub long : length new ≡ length old
  pub start_is : start ≡ rows_before blocks n
  pub starts : (i : ℕ) → i < n → get_or new i 0 ≡ rows_before blocks i
  pub others : (i : ℕ) → n ≤ i → get_or new i 0 ≡ get_or old i 0

-- the next start is at most the number of all rows
pub start_fits : (bs : List Block) (old new : List ℕ) (start n : ℕ) → n < length bs → AreStartsBelow bs old new start n → start + length (block_at bs n).rows ≤ length (all_rows bs)
start_fits bs old new start n lt are =
    let here = are.start_is in
    let more = before_more bs n lt in
    let within = before_within bs (n + 1) in
    omega (arith, here, more, within)

-- Rows of columns.

-- the first n columns have their rows, or what stands for none
abbrev pub AreRowsBelow : ℕ → List Place → List ℕ → Type 0
AreRowsBelow n m xs = (r c : ℕ) → c < n → Among (r, c) m ↔ ((get_or xs c 0 ≡ r) × (r ≢ none))

pub rows_more : (m : List Place) (xs : List ℕ) (col v : ℕ) → col < length xs → ((r : ℕ) → Among (r, col) m ↔ ((v ≡ r) × (r ≢ none))) → AreRowsBelow col m xs → AreRowsBelow (col + 1) m (set xs col v)
rows_more m xs col v inside new old r c lt = by (number_same c col)
  where
    by : (c ≡ col) ⊎ (c ≢ col) → Among (r, c) m ↔ ((get_or (set xs col v) c 0 ≡ r) × (r ≢ none))
    by (inl e) = rw (e, get_or-set_same xs col v 0 inside) (new r)
    by (inr ne) = rw (get_or-set_other xs col c v 0 ne) (old r c (omega (arith, lt, ne)))

-- what tells the row of a matched column
pub some_row : (m : Pairing) (row col : ℕ) → m.rows < 2 ^ 32 → IsPairing m → Among (row, col) m.pairs → (r : ℕ) → Among (r, col) m.pairs ↔ ((row ≡ r) × (r ≢ none))
some_row m row col few pairing on r = (
  λ (h : Among (r, col) m.pairs). let within = pairing.rows_within r col h in (one_row m.pairs (rising_distinct (cols_of m.pairs) pairing.cols_rise) row r col on h, λ e. omega (arith, within, few, e)),
  λ (told : (row ≡ r) × (r ≢ none)). subst (λ (s : ℕ). Among (s, col) m.pairs) told.0 on,
)

-- and what tells that a column has none
pub no_row : (m : Pairing) (col : ℕ) → ¬ Among col (cols_of m.pairs) → (r : ℕ) → Among (r, col) m.pairs ↔ ((none ≡ r) × (r ≢ none))
no_row m col free r =
    (λ (h : Among (r, col) m.pairs). absurd (free (col_among r col m.pairs h)), λ (told : (none ≡ r) × (r ≢ none)). absurd (told.1 (sym told.0)))
