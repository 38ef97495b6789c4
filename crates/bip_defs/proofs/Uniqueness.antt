-- A matrix is determined by its places, and its decomposition by the matrix.
use Rattle.std.proofs.Common.{◌≡◌, ◌∙◌, ℕ, List, [], ◌∷◌, slice_index, refl, sym, ap₂, subst, inl, inr, ⊎_elim, arith, le_antisymm}
use Rattle.std.proofs.lemmas.List.{ext_get_or}
use Rattle.bip_defs.specs.Blocks.{AreBlocksOf, AreInOrder, Block, Chain, ColAt, IsBlock, IsClassOf, MeetsNoOther, IsPerfect, IsSquareVertex, RowAt, Vertex, by_col, by_row, itself, least_col}
use Rattle.bip_defs.specs.Decomposition.{Decomposition, IsDecompositionOf}
use Rattle.bip_defs.specs.Lists.{Among, AreDistinct}
use Rattle.bip_defs.specs.Matching.{IsRank}
use Rattle.bip_defs.specs.Matrix.{HasPlaces, IsEntry, Matrix, Place, column}
use Rattle.bip_defs.specs.Parts.{ArePartsOf, IsHorizontalCol, IsHorizontalRow, IsSquareCol, IsSquareRow, IsVerticalCol, IsVerticalRow, Parts}
use Rattle.bip_defs.proofs.Sets.{col_among, lists_same, lists_unique, row_among, row_pair}
use Rattle.bip_defs.proofs.Square.{in_rows, square_pairs_perfect}

-- Matrices.

pub same_matrix : (m n : ℕ) (places : List Place) (a b : Matrix) → HasPlaces m n places a → HasPlaces m n places b → a ≡ b
same_matrix m n places a b h k = λ i. record { rows = (h.rows_are ∙ sym k.rows_are) i; columns = same_columns i }
  where
    same_columns : a.columns ≡ b.columns
    same_columns = ext_get_or [] a.columns b.columns (h.cols_are ∙ sym k.cols_are) (λ c lt. lists_unique (λ r. Among (r, c) places) (column a c) (column b c)
        (lists_same (λ r. IsEntry a r c) (λ r. Among (r, c) places) (column a c) (λ r e. (h.entries r c).0 e) (λ r e. (h.entries r c).1 e) (h.columns c))
        (lists_same (λ r. IsEntry b r c) (λ r. Among (r, c) places) (column b c) (λ r e. (k.entries r c).0 e) (λ r e. (k.entries r c).1 e) (k.columns c)))

-- Chains.

pub chain_join : (a : Matrix) {u v w : Vertex} → Chain a u v → Chain a v w → Chain a u w
chain_join a x itself = x
chain_join a x (by_row y e) = by_row (chain_join a x y) e
chain_join a x (by_col y e) = by_col (chain_join a x y) e

pub chain_back : (a : Matrix) {u v : Vertex} → Chain a u v → Chain a v u
chain_back a itself = itself
chain_back a (by_row y e) = chain_join a (by_col itself e) (chain_back a y)
chain_back a (by_col y e) = chain_join a (by_row itself e) (chain_back a y)

-- a chain from the square part stays there
pub chain_square : (a : Matrix) {u v : Vertex} → IsSquareVertex a u → Chain a u v → IsSquareVertex a v
chain_square a s itself = s
chain_square a s (by_row {r} {c} y e) = e.1.only_cols c (col_among r c e.0 e.2)
chain_square a s (by_col {r} {c} y e) = e.1.only_rows r (row_among r c e.0 e.2)

-- Blocks.

-- classes of vertices that a chain joins are one
pub class_same : (a : Matrix) (u v : Vertex) (b d : Block) → IsClassOf a u b → IsClassOf a v d → Chain a u v → b ≡ d
class_same a u v b d x y chain = λ i. record {
  rows = lists_unique (λ r. Chain a v (RowAt r)) b.rows d.rows (lists_same (λ r. Chain a u (RowAt r)) (λ r. Chain a v (RowAt r)) b.rows (λ r k. chain_join a (chain_back a chain) k) (λ r k. chain_join a chain k) x.rows) y.rows i;
  cols = lists_unique (λ c. Chain a v (ColAt c)) b.cols d.cols (lists_same (λ c. Chain a u (ColAt c)) (λ c. Chain a v (ColAt c)) b.cols (λ c k. chain_join a (chain_back a chain) k) (λ c k. chain_join a chain k) x.cols) y.cols i;
}

-- blocks that share a column are one
pub blocks_share_col : (a : Matrix) (b d : Block) (c : ℕ) → IsBlock a b → IsBlock a d → Among c b.cols → Among c d.cols → b ≡ d
blocks_share_col a b d c x y h k = class_same a x.0 y.0 b d x.1 y.1 (chain_join a (x.1.cols.sound c h) (chain_back a (y.1.cols.sound c k)))

-- each block has a column
pub block_has_col : (a : Matrix) (m : List Place) (b : Block) → IsPerfect a m → IsBlock a b → (c : ℕ) × Among c b.cols
block_has_col a m b perfect x = by x.0 x.1
  where
    by : (v : Vertex) → IsClassOf a v b → (c : ℕ) × Among c b.cols
    by (ColAt c) k = (c, k.cols.complete c itself)
    by (RowAt r) k = let (c, p) = row_pair r m (perfect.covers_row r k.square) in (c, k.cols.complete c (by_row itself (m, perfect, p)))

-- the least column of a list that has one is on it
pub least_among : (xs : List ℕ) → (c : ℕ) × Among c xs → Among (slice_index xs 0) xs
least_among [] h = h.1
least_among (x ∷ xs) h = inl refl

-- The order of the blocks.

free_same : (a : Matrix) (bs ds : List Block) (b : Block) → ((d : Block) → Among d ds → Among d bs) → MeetsNoOther a bs b → MeetsNoOther a ds b
free_same a bs ds b within free d h = free d (within d h)

-- blocks that have columns of their own stand in one order
pub one_order : (a : Matrix) (bs ds : List Block) → ((b d : Block) → Among b bs → Among d bs → least_col b ≡ least_col d → b ≡ d) → AreDistinct bs → AreDistinct ds → ((b : Block) → Among b bs → Among b ds) → ((b : Block) → Among b ds → Among b bs) → AreInOrder a bs → AreInOrder a ds → bs ≡ ds
one_order a [] [] own x y over back o p = refl
one_order a [] (d ∷ ds) own x y over back o p = absurd (back d (inl refl))
one_order a (b ∷ bs) [] own x y over back o p = absurd (over b (inl refl))
one_order a (b ∷ bs) (d ∷ ds) own x y over back o p = ap₂ (λ u v. u ∷ v) heads (one_order a bs ds (λ u v h k. own u v (inr h) (inr k)) x.1 y.1 rest_over rest_back o.2 p.2)
  where
    heads : b ≡ d
    heads = own b d (inl refl) (back d (inl refl)) (le_antisymm
        (o.1 d (back d (inl refl)) (free_same a (d ∷ ds) (b ∷ bs) d over p.0))
        (p.1 b (over b (inl refl)) (free_same a (b ∷ bs) (d ∷ ds) b back o.0)))

    rest_over : (z : Block) → Among z bs → Among z ds
    rest_over z h = ⊎_elim (λ (e : z ≡ d). absurd (x.0 (subst (λ w. Among w bs) (e ∙ sym heads) h))) (λ k. k) (over z (inr h))

    rest_back : (z : Block) → Among z ds → Among z bs
    rest_back z h = ⊎_elim (λ (e : z ≡ b). absurd (y.0 (subst (λ w. Among w ds) (e ∙ heads) h))) (λ k. k) (back z (inr h))

pub one_blocks : (a : Matrix) (m : List Place) (bs ds : List Block) → IsPerfect a m → AreBlocksOf a bs → AreBlocksOf a ds → bs ≡ ds
one_blocks a m bs ds perfect x y = one_order a bs ds own x.distinct y.distinct (λ b h. y.complete b (x.sound b h)) (λ b h. x.complete b (y.sound b h)) x.in_order y.in_order
  where
    least : (b : Block) → Among b bs → Among (least_col b) b.cols
    least b h = least_among b.cols (block_has_col a m b perfect (x.sound b h))

    own : (b d : Block) → Among b bs → Among d bs → least_col b ≡ least_col d → b ≡ d
    own b d h k e = blocks_share_col a b d (least_col d) (x.sound b h) (x.sound d k) (subst (λ c. Among c b.cols) e (least b h)) (least d k)

-- The whole.

pub same_parts : (a : Matrix) (p q : Parts) → ArePartsOf a p → ArePartsOf a q → p ≡ q
same_parts a p q h k = λ i. record {
  horizontal_rows = lists_unique (IsHorizontalRow a) p.horizontal_rows q.horizontal_rows h.horizontal_rows k.horizontal_rows i;
  horizontal_cols = lists_unique (IsHorizontalCol a) p.horizontal_cols q.horizontal_cols h.horizontal_cols k.horizontal_cols i;
  square_rows = lists_unique (IsSquareRow a) p.square_rows q.square_rows h.square_rows k.square_rows i;
  square_cols = lists_unique (IsSquareCol a) p.square_cols q.square_cols h.square_cols k.square_cols i;
  vertical_rows = lists_unique (IsVerticalRow a) p.vertical_rows q.vertical_rows h.vertical_rows k.vertical_rows i;
  vertical_cols = lists_unique (IsVerticalCol a) p.vertical_cols q.vertical_cols h.vertical_cols k.vertical_cols i;
}

pub same_rank : (a : Matrix) (j k : ℕ) → IsRank a j → IsRank a k → j ≡ k
same_rank a j k x y = omega (arith, x.2, y.2, x.1.longest y.0 y.1.matching, y.1.longest x.0 x.1.matching)

pub same_decomposition : (a : Matrix) (d e : Decomposition) → IsDecompositionOf a d → IsDecompositionOf a e → d ≡ e
same_decomposition a d e x y = λ i. record {
  rank = same_rank a d.rank e.rank x.rank y.rank i;
  parts = same_parts a d.parts e.parts x.parts y.parts i;
  blocks = one_blocks a (in_rows d.parts.square_rows x.rank.0) d.blocks e.blocks (square_pairs_perfect a x.rank.0 d.parts.square_rows x.rank.1 x.parts.square_rows) x.blocks y.blocks i;
}
