-- The opening of a board from a forest.
use Rattle.std.proofs.Common.{◌≡◌, ◌∙◌, ℕ, zero, suc, inl, inr, ◌+◌, ◌<◌, List, ◌++◌, Option, None, length, refl, sym, ap, subst, arith}
use Rattle.std.proofs.lemmas.List.{get_or-append-add}
use Rattle.std.proofs.Math.ListN.{get_or-append}
use Rattle.bip_defs.specs.Forest.{IsRootOfRow, RootOf, State}
use Rattle.bip_defs.specs.Matrix.{cols}
use Rattle.bip_defs.specs.WordValues.{held}
use Rattle.flip_words.specs.Board.{AreTrees, Board, IsOpenedFrom, col_vertex}
use Rattle.forest_core.specs.Current.{base_of}
use Rattle.forest_core.specs.Stored.{AreColTrees, AreRowTrees}
use Rattle.flip_words.specs.Listed.{nothing}
use Rattle.flip_words.specs.Seat.{Seat, more_seats, new_seats}
use Rattle.tree_augment.specs.Augmented.{HaveTakenNone}
use Rattle.tree_augment.specs.ForestBoards.{IsBoardOf}

pub row_trees_fit : (s : State) (trees : List (Option ℕ)) → ((x r : ℕ) → IsRootOfRow s.base s.claims x r → x < cols s.matrix) → length trees ≡ s.matrix.rows → AreRowTrees s trees → AreTrees s.matrix.rows (cols s.matrix) trees
row_trees_fit s trees range long are = record { as_many = long; roots = λ v x e. range x v ((are v x).0 e) }

pub col_trees_fit : (s : State) (trees : List (Option ℕ)) → ((x c : ℕ) → RootOf s.base s.claims x c → c < cols s.matrix → x < cols s.matrix) → length trees ≡ cols s.matrix → AreColTrees s trees → AreTrees (cols s.matrix) (cols s.matrix) trees
col_trees_fit s trees range long are = record { as_many = long; roots = λ v x e. let (lt, w) = (are v x).0 e in range x v w lt }

pub opened_board : {s : State} {b : Board} (rows_are cols_are : List (Option ℕ)) → IsOpenedFrom (base_of s) (rows_are ++ cols_are) b → length rows_are ≡ s.matrix.rows → AreRowTrees s rows_are → AreColTrees s cols_are → IsBoardOf s b
opened_board {s = s} {b = b} rows_are cols_are o long row_is col_is = record {
  opened = record { rows = o.rows; cols = o.cols; trees = refl; as_many = o.as_many; row = o.row; col = o.col };
  row_trees = λ r x lt. let e = of_row r lt in (λ h. (row_is r x).0 (sym e ∙ h), λ h. e ∙ (row_is r x).1 h);
  col_trees = λ c x lt. let e = of_col c in (λ h. ((col_is c x).0 (sym e ∙ h)).1, λ h. e ∙ (col_is c x).1 (subst (λ n. c < n) o.cols lt, h));
}
  where
    of_row : (r : ℕ) → r < b.rows → held b.trees r ≡ held rows_are r
    of_row r lt = ap (λ ts. held ts r) o.trees ∙ get_or-append rows_are cols_are None r (let many = o.rows in omega (arith, lt, many, long))

    of_col : (c : ℕ) → held b.trees (col_vertex b c) ≡ held cols_are c
    of_col c = (λ i. held (o.trees i) ((o.rows ∙ sym long) i + c)) ∙ get_or-append-add rows_are cols_are c None

-- New seats.

more_taken_none : (b : Board) (n count : ℕ) → HaveTakenNone (more_seats nothing b n count)
more_taken_none b n zero t h = absurd h
more_taken_none b n (suc count) t (inl e) = ap (λ (u : Seat). u.listed.taken) e
more_taken_none b n (suc count) t (inr h) = more_taken_none b (1 + n) count t h

pub new_taken_none : (b : Board) (count : ℕ) → HaveTakenNone (new_seats b count)
new_taken_none b zero t h = absurd h
new_taken_none b (suc others) t (inl e) = ap (λ (u : Seat). u.listed.taken) e
new_taken_none b (suc others) t (inr h) = more_taken_none b 1 others t h
