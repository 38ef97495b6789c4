use Rattle.std.proofs.Common.{rules, ◌≡◌, ap, length, ◌∙◌, ◌++◌, List, Option, subst, sym, ℕ}
use Rattle.std.proofs.lemmas.Result.{IfOk-weaker}
use Rattle.bip_graph.specs.Matching.{Pairing}
use Rattle.bip_defs.specs.Matrix.{cols}
use Rattle.forest_core.specs.Stored.{AreColTrees, AreRowTrees}
use Rattle.flip_words.specs.Board.{AreTrees, IsOpenedFrom}
use Rattle.flip_words.specs.Seat.{AreAllSeats, HoldsAllSeats, Seat}
use Rattle.tree_augment.specs.Augmented.{HaveTakenNone}
use Rattle.tree_augment.proofs.OpeningLemmas.{col_trees_fit, new_taken_none, opened_board, row_trees_fit}
use Rattle.tree_augment.proofs.opening.open.Goals as goal

pub new-requires-clause-row_tree : goal.new-requires-clause-row_tree
new-requires-clause-row_tree g c =
    let row_long : length c.in_ok-row_trees.row_trees.items ≡ c.args.forest.now.matrix.rows = search rules in
    let row_trees : AreRowTrees c.args.forest.now c.in_ok-row_trees.row_trees.items = search rules in
    let s = c.args.forest.now in
    subst (λ (p : Pairing × List (Option ℕ)). AreTrees p.0.rows p.0.cols p.1) (λ i. (sym c.base.ensures.base i, sym c.as_slice.ensures.value i))
    (row_trees_fit s c.in_ok-row_trees.row_trees.items (λ x r w. (c.base.ensures.trees.row_root_in_range x r w).0) row_long row_trees)

pub new-requires-clause-col_tree : goal.new-requires-clause-col_tree
new-requires-clause-col_tree g c =
    let col_long : length c.in_ok-col_trees.col_trees.items ≡ cols c.args.forest.now.matrix = search rules in
    let col_trees : AreColTrees c.args.forest.now c.in_ok-col_trees.col_trees.items = search rules in
    let s = c.args.forest.now in
    subst (λ (p : Pairing × List (Option ℕ)). AreTrees p.0.cols p.0.cols p.1) (λ i. (sym c.base.ensures.base i, sym c.as_slice-2.ensures.value i))
    (col_trees_fit s c.in_ok-col_trees.col_trees.items (λ x d w lt. c.base.ensures.trees.root_in_range x d w lt) col_long col_trees)

pub returns-clause-board : goal.returns-clause-board
returns-clause-board g c =
    let row_long : length c.in_ok-row_trees.row_trees.items ≡ c.args.forest.now.matrix.rows = search rules in
    let row_trees : AreRowTrees c.args.forest.now c.in_ok-row_trees.row_trees.items = search rules in
    let col_trees : AreColTrees c.args.forest.now c.in_ok-col_trees.col_trees.items = search rules in
    IfOk-weaker c.new.result _ _ (λ b o. opened_board c.in_ok-row_trees.row_trees.items c.in_ok-col_trees.col_trees.items
    (subst (λ (p : Pairing × List (Option ℕ)). IsOpenedFrom p.0 p.1 b.0) (λ i. (c.base.ensures.base i, c.as_slice.ensures.value i ++ c.as_slice-2.ensures.value i)) o)
    row_long row_trees col_trees) c.new.ensures.board

pub returns-clause-order : goal.returns-clause-order
returns-clause-order g c = IfOk-weaker c.new.result _ _ (λ b are. subst (AreAllSeats b.0) (sym are) (c.new_seats_are_all.ensures.all b.0 c.args.seats c.requires.seats.0)) c.new.ensures.seats

pub returns-clause-all : goal.returns-clause-all
returns-clause-all g c = IfOk-weaker c.new.result _ _ (λ b are. subst (HoldsAllSeats b.0) (sym are) (c.new_seats_are_all.ensures.in_any_order b.0 c.args.seats c.requires.seats.0)) c.new.ensures.seats

pub returns-clause-count : goal.returns-clause-count
returns-clause-count g c = IfOk-weaker c.new.result _ _ (λ b are. ap (λ (ts : List Seat). length ts) are ∙ c.new_seats_are_all.ensures.many b.0 c.args.seats) c.new.ensures.seats

pub returns-clause-none_taken : goal.returns-clause-none_taken
returns-clause-none_taken g c = IfOk-weaker c.new.result _ _ (λ b are. subst HaveTakenNone (sym are) (new_taken_none b.0 c.args.seats)) c.new.ensures.seats
