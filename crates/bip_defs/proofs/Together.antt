-- The blocks together have each row and each column of the square part once.
use Rattle.std.proofs.Common.{◌≡◌, ℕ, List, [], ◌∷◌, refl, sym, subst, inl, inr, ⊎_elim, ◌+◌, ◌∙◌, ◌++◌, length, ap, append-nil, length-append}
use Rattle.std.specs.List.{flat_map}
use Rattle.std.proofs.lemmas.Grind.{flat_map-append}
use Rattle.bip_defs.specs.Blocks.{AreBlocksOf, Block, Chain, ColAt, IsBlock, IsClassOf, IsSquareVertex, RowAt, Vertex, itself, all_cols, all_rows}
use Rattle.bip_defs.specs.Lists.{Among, AreDistinct}
use Rattle.bip_defs.specs.Matrix.{Matrix, cols}
use Rattle.bip_defs.specs.Once.{ListsOnce}
use Rattle.bip_defs.specs.Parts.{IsSquareCol, IsSquareRow}
use Rattle.bip_defs.proofs.Counts.{distinct_append}
use Rattle.bip_defs.proofs.Sets.{among_either, among_left, among_right, listed, number_among, rising_distinct}
use Rattle.bip_defs.proofs.Uniqueness.{blocks_share_col, chain_back, chain_join, chain_square, class_same}

-- Lists of lists.

pub flat_among : {X : Type 0} (f : X → List ℕ) (xs : List X) (y : ℕ) → Among y (flat_map f xs) → (x : X) × Among x xs × Among y (f x)
flat_among f [] y h = elim h [ ]
flat_among f (x ∷ xs) y h = ⊎_elim (λ (k : Among y (f x)). (x, inl refl, k)) (λ (k : Among y (flat_map f xs)). let (z, g, l) = flat_among f xs y k in (z, inr g, l)) (among_either y (f x) (flat_map f xs) h)

pub among_flat : {X : Type 0} (f : X → List ℕ) (xs : List X) (x : X) (y : ℕ) → Among x xs → Among y (f x) → Among y (flat_map f xs)
among_flat f [] x y h k = elim h [ ]
among_flat f (z ∷ xs) x y (inl e) k = among_left y (f z) (flat_map f xs) (subst (λ w. Among y (f w)) e k)
among_flat f (z ∷ xs) x y (inr h) k = among_right y (f z) (flat_map f xs) (among_flat f xs x y h k)

-- lists that share nothing have together each number once
pub flat_distinct : {X : Type 0} (f : X → List ℕ) (xs : List X) → AreDistinct xs → ((x : X) → Among x xs → AreDistinct (f x)) → ((x z : X) (y : ℕ) → Among x xs → Among z xs → Among y (f x) → Among y (f z) → x ≡ z) → AreDistinct (flat_map f xs)
flat_distinct f [] d each share = tt
flat_distinct f (x ∷ xs) d each share = distinct_append (f x) (flat_map f xs) (each x (inl refl)) (flat_distinct f xs d.1 (λ z h. each z (inr h)) (λ u v y h k. share u v y (inr h) (inr k)))
    (λ y h k. let (z, g, l) = flat_among f xs y k in d.0 (subst (λ w. Among w xs) (sym (share x z y (inl refl) (inr g) h l)) g))

-- The rows and columns of blocks.

pub block_row_square : (a : Matrix) (b : Block) (r : ℕ) → IsBlock a b → Among r b.rows → IsSquareRow a r
block_row_square a b r x h = chain_square a x.1.square (x.1.rows.sound r h)

pub block_col_square : (a : Matrix) (b : Block) (c : ℕ) → IsBlock a b → Among c b.cols → IsSquareCol a c
block_col_square a b c x h = chain_square a x.1.square (x.1.cols.sound c h)

-- blocks that share a row are one
pub blocks_share_row : (a : Matrix) (b d : Block) (r : ℕ) → IsBlock a b → IsBlock a d → Among r b.rows → Among r d.rows → b ≡ d
blocks_share_row a b d r x y h k = class_same a x.0 y.0 b d x.1 y.1 (chain_join a (x.1.rows.sound r h) (chain_back a (y.1.rows.sound r k)))

-- a row or a column of the square part cannot fail to be in a block
in_block : (a : Matrix) (v : Vertex) (bs : List Block) → AreBlocksOf a bs → IsSquareVertex a v → ¬ ¬ ((b : Block) × Among b bs × IsClassOf a v b)
in_block a v bs blocks square none = listed (λ r. Chain a v (RowAt r)) a.rows (λ r k. (chain_square a square k).0) (λ rows.
    listed (λ c. Chain a v (ColAt c)) (cols a) (λ c k. (chain_square a square k).0) (λ columns.
    let class : IsClassOf a v (record { rows = rows.0; cols = columns.0 }) = record { square = square; rows = rows.1; cols = columns.1 } in
    none (record { rows = rows.0; cols = columns.0 }, blocks.complete _ (v, class), class)))

pub square_rows_once : (a : Matrix) (bs : List Block) → AreBlocksOf a bs → ListsOnce (IsSquareRow a) (all_rows bs)
square_rows_once a bs blocks = record {
  distinct = flat_distinct (λ (b : Block). b.rows) bs blocks.distinct (λ b h. rising_distinct b.rows (blocks.sound b h).1.rows.rising) (λ b d r h k x y. blocks_share_row a b d r (blocks.sound b h) (blocks.sound d k) x y);
  sound = λ r h. let (b, k, g) = flat_among (λ (b : Block). b.rows) bs r h in block_row_square a b r (blocks.sound b k) g;
  complete = λ r s. ⊎_elim (λ h. h) (λ (ne : ¬ Among r (all_rows bs)). absurd (in_block a (RowAt r) bs blocks s (λ x. ne (among_flat (λ (b : Block). b.rows) bs x.0 r x.1 (x.2.rows.complete r itself))))) (number_among r (all_rows bs));
}

pub square_cols_once : (a : Matrix) (bs : List Block) → AreBlocksOf a bs → ListsOnce (IsSquareCol a) (all_cols bs)
square_cols_once a bs blocks = record {
  distinct = flat_distinct (λ (b : Block). b.cols) bs blocks.distinct (λ b h. rising_distinct b.cols (blocks.sound b h).1.cols.rising) (λ b d c h k x y. blocks_share_col a b d c (blocks.sound b h) (blocks.sound d k) x y);
  sound = λ c h. let (b, k, g) = flat_among (λ (b : Block). b.cols) bs c h in block_col_square a b c (blocks.sound b k) g;
  complete = λ c s. ⊎_elim (λ h. h) (λ (ne : ¬ Among c (all_cols bs)). absurd (in_block a (ColAt c) bs blocks s (λ x. ne (among_flat (λ (b : Block). b.cols) bs x.0 c x.1 (x.2.cols.complete c itself))))) (number_among c (all_cols bs));
}

-- a list of blocks with one block more
pub more_rows : (blocks : List Block) (b : Block) → length (all_rows (blocks ++ b ∷ [])) ≡ length (all_rows blocks) + length b.rows
more_rows blocks b = ap length (flat_map-append (λ (b : Block). b.rows) blocks (b ∷ [])) ∙ length-append (all_rows blocks) (b.rows ++ []) ∙ ap (λ (xs : List ℕ). length (all_rows blocks) + length xs) (append-nil b.rows)
