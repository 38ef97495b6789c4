-- The orders of a report go through the diagonal blocks.
use Rattle.std.proofs.Common.{◌≡◌, ◌∙◌, ℕ, zero, suc, ◌-◌, ◌<◌, ◌≤◌, List, [], ◌∷◌, ◌++◌, get_or, length, take, refl, sym, subst, arith, le_antisymm, length-append, suc-le-suc, zero-le}
use Rattle.std.proofs.Math.Decide.{dec_lt}
use Rattle.std.proofs.lemmas.List.{append_assoc, get_or-append_right, get_or_append_left}
use Rattle.std.proofs.lemmas.List.Concat.{length-flat_map}
use Rattle.std.specs.List.{flat_map}
use Rattle.bip_defs.specs.Blocks.{Block, all_cols, all_rows, block_at}
use Rattle.bip_defs.specs.Decomposition.{Decomposition, IsDecompositionOf}
use Rattle.bip_defs.specs.Lists.{Among}
use Rattle.bip_defs.specs.Matrix.{IsEntry, Matrix, cols, upto}
use Rattle.bip_defs.specs.Once.{ListsOnce}
use Rattle.bip_defs.specs.Parts.{IsSquareRow}
use Rattle.bip_defs.specs.Small.{lower_triangle, lower_triangle_parts, single}
use Rattle.bip_defs.specs.Triangular.{diagonal_blocks}
use Rattle.bip_defs.proofs.Counts.{square_count}
use Rattle.bip_defs.proofs.Sets.{among_at, few_distinct, rising_distinct, upto_length, upto_lists}
use Rattle.bip_defs.proofs.Small.{filled, lower_triangle_is}
use Rattle.bip_defs.proofs.Together.{square_rows_once}
use Rattle.bip_defs.proofs.Triangular.{cols_in_parts, rows_in_parts, upper_triangular}
use Rattle.bip_graph.specs.Answers.{orders_of}
use Rattle.bip_graph.specs.Orders.{IsZeroBelow}
use Rattle.bip_graph.specs.Texts.{square_size}

pub rows_go : (d : Decomposition) → (orders_of d).0 ≡ all_rows (diagonal_blocks d)
rows_go d = append_assoc d.parts.horizontal_rows (all_rows d.blocks) d.parts.vertical_rows ∙ sym (rows_in_parts d)

pub cols_go : (d : Decomposition) → (orders_of d).1 ≡ all_cols (diagonal_blocks d)
cols_go d = append_assoc d.parts.horizontal_cols (all_cols d.blocks) d.parts.vertical_cols ∙ sym (cols_in_parts d)

pub rows_once : (a : Matrix) (d : Decomposition) → IsDecompositionOf a d → ListsOnce (λ r. r < a.rows) (orders_of d).0
rows_once a d is = subst (ListsOnce (λ r. r < a.rows)) (sym (rows_go d)) (upper_triangular a d is).rows

pub cols_once : (a : Matrix) (d : Decomposition) → IsDecompositionOf a d → ListsOnce (λ c. c < cols a) (orders_of d).1
cols_once a d is = subst (ListsOnce (λ c. c < cols a)) (sym (cols_go d)) (upper_triangular a d is).cols

pub square_rows_counted : (a : Matrix) (d : Decomposition) → IsDecompositionOf a d → square_size d.blocks ≡ length d.parts.square_rows
square_rows_counted a d is = sym (length-flat_map (λ (b : Block). b.rows) d.blocks) ∙ le_antisymm
    (few_distinct (all_rows d.blocks) d.parts.square_rows once.distinct (λ r h. is.parts.square_rows.complete r (once.sound r h)))
    (few_distinct d.parts.square_rows (all_rows d.blocks) (rising_distinct d.parts.square_rows is.parts.square_rows.rising) (λ r h. once.complete r (is.parts.square_rows.sound r h)))
  where
    once : ListsOnce (IsSquareRow a) (all_rows d.blocks)
    once = square_rows_once a d.blocks is.blocks

pub square_cols_counted : (a : Matrix) (d : Decomposition) → IsDecompositionOf a d → square_size d.blocks ≡ length d.parts.square_cols
square_cols_counted a d is = square_rows_counted a d is ∙ square_count a is.rank.0 d.parts.square_rows d.parts.square_cols is.rank.1 is.parts.square_rows is.parts.square_cols

-- Positions.

-- from where a block begins stand its own numbers and those of later blocks
from_start : (f : Block → List ℕ) (bs : List Block) (i x : ℕ) → length (flat_map f (take i bs)) ≤ x → x < length (flat_map f bs) → (k : ℕ) × (i ≤ k) × Among (get_or (flat_map f bs) x 0) (f (block_at bs k))
from_start f [] i x from lt = absurd (omega (arith, lt))
from_start f (b ∷ bs) zero x from lt = by (from_start f bs zero) (dec_lt x (length (f b)))
  where
    by : ((y : ℕ) → 0 ≤ y → y < length (flat_map f bs) → (k : ℕ) × (0 ≤ k) × Among (get_or (flat_map f bs) y 0) (f (block_at bs k))) → Dec (x < length (f b)) → (k : ℕ) × (0 ≤ k) × Among (get_or (f b ++ flat_map f bs) x 0) (f (block_at (b ∷ bs) k))
    by more (yes here) = (0, zero-le, subst (λ z. Among z (f b)) (sym (get_or_append_left (f b) (flat_map f bs) 0 x here)) (among_at (f b) x 0 here))
    by more (no later) =
        let (k, le, h) = more (x - length (f b)) zero-le (omega (arith, lt, length-append (f b) (flat_map f bs))) in
        (suc k, zero-le, subst (λ z. Among z (f (block_at bs k))) (sym (get_or-append_right (f b) (flat_map f bs) (length (f b)) x 0 refl (omega arith))) h)
from_start f (b ∷ bs) (suc i) x from lt =
    let (k, le, h) = from_start f bs i (x - length (f b)) (omega (arith, from, length-append (f b) (flat_map f (take i bs)))) (omega (arith, lt, from, length-append (f b) (flat_map f bs), length-append (f b) (flat_map f (take i bs)))) in
    (suc k, suc-le-suc le, subst (λ z. Among z (f (block_at bs k))) (sym (get_or-append_right (f b) (flat_map f bs) (length (f b)) x 0 refl (omega (arith, from, length-append (f b) (flat_map f (take i bs)))))) h)

-- before it stand those of earlier ones
before_start : (f : Block → List ℕ) (bs : List Block) (i y : ℕ) → y < length (flat_map f (take i bs)) → (k : ℕ) × (k < i) × Among (get_or (flat_map f bs) y 0) (f (block_at bs k))
before_start f [] zero y lt = absurd (omega (arith, lt))
before_start f [] (suc i) y lt = absurd (omega (arith, lt))
before_start f (b ∷ bs) zero y lt = absurd (omega (arith, lt))
before_start f (b ∷ bs) (suc i) y lt = by (before_start f bs i) (dec_lt y (length (f b)))
  where
    by : ((x : ℕ) → x < length (flat_map f (take i bs)) → (k : ℕ) × (k < i) × Among (get_or (flat_map f bs) x 0) (f (block_at bs k))) → Dec (y < length (f b)) → (k : ℕ) × (k < suc i) × Among (get_or (f b ++ flat_map f bs) y 0) (f (block_at (b ∷ bs) k))
    by more (yes here) = (0, omega arith, subst (λ z. Among z (f b)) (sym (get_or_append_left (f b) (flat_map f bs) 0 y here)) (among_at (f b) y 0 here))
    by more (no later) =
        let (k, le, h) = more (y - length (f b)) (omega (arith, lt, length-append (f b) (flat_map f (take i bs)))) in
        (suc k, suc-le-suc le, subst (λ z. Among z (f (block_at bs k))) (sym (get_or-append_right (f b) (flat_map f bs) (length (f b)) y 0 refl (omega arith))) h)

all_rows_long : (a : Matrix) (rs : List ℕ) → ListsOnce (λ r. r < a.rows) rs → a.rows ≤ length rs
all_rows_long a rs once = omega (arith, upto_length 0 a.rows, few_distinct (upto a.rows) rs (rising_distinct (upto a.rows) (upto_lists a.rows).rising) (λ r h. once.complete r ((upto_lists a.rows).sound r h)))

pub zero_below : (a : Matrix) (d : Decomposition) → IsDecompositionOf a d → IsZeroBelow a (diagonal_blocks d) (orders_of d)
zero_below a d is i x y from lt before e =
    let form = upper_triangular a d is in
    let many = all_rows_long a (all_rows (diagonal_blocks d)) form.rows in
    let (j, late, r) = from_start (λ (b : Block). b.rows) (diagonal_blocks d) i x from (omega (arith, many, lt)) in
    let (k, early, c) = before_start (λ (b : Block). b.cols) (diagonal_blocks d) i y before in
    let entry : IsEntry a (get_or (all_rows (diagonal_blocks d)) x 0) (get_or (all_cols (diagonal_blocks d)) y 0) =
    subst (λ (both : List ℕ × List ℕ). IsEntry a (get_or both.0 x 0) (get_or both.1 y 0)) (λ t. (rows_go d t, cols_go d t)) e in
    absurd (omega (arith, late, early, form.entries _ _ j k entry r c))

-- A lower triangle.

pub from_the_end : IsZeroBelow lower_triangle (diagonal_blocks lower_triangle_parts) (2 ∷ 1 ∷ 0 ∷ [], 2 ∷ 1 ∷ 0 ∷ [])
from_the_end = zero_below lower_triangle lower_triangle_parts lower_triangle_is

-- the second row has an entry in the first column
pub from_the_start : ¬ IsZeroBelow lower_triangle (single 0 ∷ single 1 ∷ single 2 ∷ []) (0 ∷ 1 ∷ 2 ∷ [], 0 ∷ 1 ∷ 2 ∷ [])
from_the_start zero_under = zero_under 1 1 0 (omega arith) (omega arith) (omega arith) (filled 1 0 (omega arith) (omega arith))
