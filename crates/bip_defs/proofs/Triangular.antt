-- A decomposition gives a block upper triangular form.
use Rattle.std.proofs.Common.{◌≡◌, ◌∙◌, ℕ, zero, suc, ◌<◌, ◌≤◌, List, [], ◌∷◌, ◌++◌, refl, sym, ap, subst, inl, inr, ⊎_elim, append-nil, suc-le-suc, zero-le}
use Rattle.std.proofs.lemmas.Grind.{flat_map-append}
use Rattle.std.specs.List.{flat_map}
use Rattle.bip_defs.specs.Blocks.{AreInOrder, Block, IsBlock, all_cols, all_rows, block_at}
use Rattle.bip_defs.specs.Decomposition.{Decomposition, IsDecompositionOf}
use Rattle.bip_defs.specs.Lists.{Among, AreDistinct, Lists}
use Rattle.bip_defs.specs.Matrix.{IsEntry, Matrix, cols}
use Rattle.bip_defs.specs.Once.{ListsOnce}
use Rattle.bip_defs.specs.Parts.{IsHorizontalCol, IsHorizontalRow, IsSquareCol, IsSquareRow, IsVerticalCol, IsVerticalRow}
use Rattle.bip_defs.specs.Triangular.{IsBlockUpperTriangular, diagonal_blocks}
use Rattle.bip_defs.proofs.Counts.{distinct_append, horizontal_row_in_range, vertical_col_in_range}
use Rattle.bip_defs.proofs.Sets.{among_either, among_last, among_left, among_right, number_among, rising_distinct}
use Rattle.bip_defs.proofs.Square.{cols_apart, rows_apart}
use Rattle.bip_defs.proofs.Together.{block_col_square, block_row_square, square_cols_once, square_rows_once}

-- Each row and each column once.

pub lists_once : (P : ℕ → Type 0) (xs : List ℕ) → Lists P xs → ListsOnce P xs
lists_once P xs l = record { distinct = rising_distinct xs l.rising; sound = l.sound; complete = l.complete }

-- three lists that share no number and have all numbers below n
once_together : (P Q R : ℕ → Type 0) (n : ℕ) (xs ys zs : List ℕ) → ListsOnce P xs → ListsOnce Q ys → ListsOnce R zs → ((x : ℕ) → P x → ¬ Q x) → ((x : ℕ) → P x → ¬ R x) → ((x : ℕ) → Q x → ¬ R x) → ((x : ℕ) → P x → x < n) → ((x : ℕ) → Q x → x < n) → ((x : ℕ) → R x → x < n) → ((x : ℕ) → x < n → ¬ P x → ¬ R x → Q x) → ListsOnce (λ x. x < n) (xs ++ (ys ++ zs))
once_together P Q R n xs ys zs l h k pq pr qr pn qn rn rest = record {
  distinct = distinct_append xs (ys ++ zs) l.distinct (distinct_append ys zs h.distinct k.distinct (λ x a b. qr x (h.sound x a) (k.sound x b))) (λ x a b. ⊎_elim (λ c. pq x (l.sound x a) (h.sound x c)) (λ c. pr x (l.sound x a) (k.sound x c)) (among_either x ys zs b));
  sound = λ x a. ⊎_elim (λ b. pn x (l.sound x b)) (λ b. ⊎_elim (λ c. qn x (h.sound x c)) (λ c. rn x (k.sound x c)) (among_either x ys zs b)) (among_either x xs (ys ++ zs) a);
  complete = λ x lt. ⊎_elim (λ b. among_left x xs (ys ++ zs) b) (λ nb. among_right x xs (ys ++ zs) (⊎_elim (λ c. among_right x ys zs c) (λ nc. among_left x ys zs (h.complete x (rest x lt (λ p. nb (l.complete x p)) (λ r. nc (k.complete x r))))) (number_among x zs))) (number_among x xs);
}

-- the last of lists that are joined
flat_last : {X : Type 0} (f : X → List ℕ) (xs : List X) (y : X) → flat_map f (xs ++ y ∷ []) ≡ flat_map f xs ++ f y
flat_last f xs y = flat_map-append f xs (y ∷ []) ∙ ap (λ (ys : List ℕ). flat_map f xs ++ ys) (append-nil (f y))

-- the rows of the horizontal part, of the blocks and of the vertical part
pub rows_in_parts : (d : Decomposition) → all_rows (diagonal_blocks d) ≡ d.parts.horizontal_rows ++ (all_rows d.blocks ++ d.parts.vertical_rows)
rows_in_parts d = ap (λ (ys : List ℕ). d.parts.horizontal_rows ++ ys) (flat_last (λ (b : Block). b.rows) d.blocks (record { rows = d.parts.vertical_rows; cols = d.parts.vertical_cols }))

pub cols_in_parts : (d : Decomposition) → all_cols (diagonal_blocks d) ≡ d.parts.horizontal_cols ++ (all_cols d.blocks ++ d.parts.vertical_cols)
cols_in_parts d = ap (λ (ys : List ℕ). d.parts.horizontal_cols ++ ys) (flat_last (λ (b : Block). b.cols) d.blocks (record { rows = d.parts.vertical_rows; cols = d.parts.vertical_cols }))

pub rows_once : (a : Matrix) (d : Decomposition) → IsDecompositionOf a d → ListsOnce (λ r. r < a.rows) (d.parts.horizontal_rows ++ (all_rows d.blocks ++ d.parts.vertical_rows))
rows_once a d is = once_together (IsHorizontalRow a) (IsSquareRow a) (IsVerticalRow a) a.rows d.parts.horizontal_rows (all_rows d.blocks) d.parts.vertical_rows (lists_once (IsHorizontalRow a) d.parts.horizontal_rows is.parts.horizontal_rows) (square_rows_once a d.blocks is.blocks) (lists_once (IsVerticalRow a) d.parts.vertical_rows is.parts.vertical_rows) (λ r k s. s.1 k) (rows_apart a) (λ r s v. s.2 v) (horizontal_row_in_range a) (λ r s. s.0) (λ r v. v.0) (λ r lt nh nv. (lt, nh, nv))

pub cols_once : (a : Matrix) (d : Decomposition) → IsDecompositionOf a d → ListsOnce (λ c. c < cols a) (d.parts.horizontal_cols ++ (all_cols d.blocks ++ d.parts.vertical_cols))
cols_once a d is = once_together (IsHorizontalCol a) (IsSquareCol a) (IsVerticalCol a) (cols a) d.parts.horizontal_cols (all_cols d.blocks) d.parts.vertical_cols (lists_once (IsHorizontalCol a) d.parts.horizontal_cols is.parts.horizontal_cols) (square_cols_once a d.blocks is.blocks) (lists_once (IsVerticalCol a) d.parts.vertical_cols is.parts.vertical_cols) (λ c k s. s.1 k) (cols_apart a) (λ c s v. s.2 v) (λ c k. k.0) (λ c s. s.0) (vertical_col_in_range a) (λ c lt nh nv. (lt, nh, nv))

-- No entry below the diagonal blocks.

-- the block of a row at a position
at_row : (bs : List Block) (i r : ℕ) → Among r (block_at bs i).rows → (b : Block) × Among b bs × Among r b.rows
at_row [] i r h = absurd h
at_row (b ∷ bs) zero r h = (b, inl refl, h)
at_row (b ∷ bs) (suc i) r h = let (d, k, g) = at_row bs i r h in (d, inr k, g)

-- a row of the blocks or of the last part is square or vertical
later_row : (a : Matrix) (bs : List Block) (v : Block) (i r : ℕ) {Y : Type 0} → ((b : Block) → Among b bs → Among r b.rows → Y) → (Among r v.rows → Y) → Among r (block_at (bs ++ v ∷ []) i).rows → Y
later_row a bs v i r fine last h =
    let (z, on, g) = at_row (bs ++ v ∷ []) i r h in
    ⊎_elim (λ k. fine z k g) (λ (e : z ≡ v). last (subst (λ (w : Block). Among r w.rows) e g)) (among_last z v bs on)

fine_entries : (a : Matrix) (bs : List Block) (v : Block) → ((b : Block) → Among b bs → IsBlock a b) → AreDistinct bs → AreInOrder a bs → ((r : ℕ) → Among r v.rows → IsVerticalRow a r) → (r c i j : ℕ) → IsEntry a r c → Among r (block_at (bs ++ v ∷ []) i).rows → Among c (block_at (bs ++ v ∷ []) j).cols → i ≤ j
fine_entries a [] v are apart order vertical r c zero j e x y = zero-le
fine_entries a [] v are apart order vertical r c (suc i) j e x y = absurd x
fine_entries a (b ∷ bs) v are apart order vertical r c zero j e x y = zero-le
fine_entries a (b ∷ bs) v are apart order vertical r c (suc i) zero e x y = absurd (later_row a bs v i r
    (λ z h g. order.0 z (inr h) (λ (f : z ≡ b). apart.0 (subst (λ w. Among w bs) f h)) r c g y e)
    (λ g. (block_col_square a b c (are b (inl refl)) y).2 (r, vertical r g, e))
    x)
fine_entries a (b ∷ bs) v are apart order vertical r c (suc i) (suc j) e x y = suc-le-suc (fine_entries a bs v (λ z h. are z (inr h)) apart.1 order.2 vertical r c i j e x y)

entries_above : (a : Matrix) (d : Decomposition) → IsDecompositionOf a d → (r c i j : ℕ) → IsEntry a r c → Among r (block_at (diagonal_blocks d) i).rows → Among c (block_at (diagonal_blocks d) j).cols → i ≤ j
entries_above a d is r c zero j e x y = zero-le
entries_above a d is r c (suc i) zero e x y = absurd (later_row a d.blocks (record { rows = d.parts.vertical_rows; cols = d.parts.vertical_cols }) i r
    (λ b h g. (block_row_square a b r (is.blocks.sound b h) g).1 horizontal)
    (λ g. rows_apart a r horizontal (is.parts.vertical_rows.sound r g))
    x)
  where
    horizontal : IsHorizontalRow a r
    horizontal = (c, is.parts.horizontal_cols.sound c y, e)
entries_above a d is r c (suc i) (suc j) e x y = suc-le-suc (fine_entries a d.blocks (record { rows = d.parts.vertical_rows; cols = d.parts.vertical_cols }) is.blocks.sound is.blocks.distinct is.blocks.in_order is.parts.vertical_rows.sound r c i j e x y)

pub upper_triangular : (a : Matrix) (d : Decomposition) → IsDecompositionOf a d → IsBlockUpperTriangular a (diagonal_blocks d)
upper_triangular a d is = record {
  rows = subst (ListsOnce (λ r. r < a.rows)) (sym (rows_in_parts d)) (rows_once a d is);
  cols = subst (ListsOnce (λ c. c < cols a)) (sym (cols_in_parts d)) (cols_once a d is);
  entries = entries_above a d is;
}
