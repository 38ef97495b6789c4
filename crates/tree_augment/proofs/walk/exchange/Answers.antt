use Rattle.tree_augment.proofs.WalkLemmas.{col_in_matrix, col_unset, come_to_leaf, comes_further, comes_to_end, fewer_left, row_claimed, row_unset, seat_then, took_then, turn}
use Rattle.tree_augment.proofs.walk.exchange.Goals as goal

pub loop-col-init : goal.loop-col-init
loop-col-init c =
    let trees = c.requires.board.trees in
    record {
      can = record {
        sound = trees.sound;
        board = c.requires.board.board;
        seat = c.requires.seat;
        took = c.requires.took;
        unset = c.requires.unset;
        once = trees.rows_differ;
        low = trees.claim_in_range;
        root = (trees.leaf_in_range c.args.root c.args.leaf c.requires.leaf).0;
        tree = trees.path_root c.args.root;
      };
      walk = come_to_leaf c.args.seat.now trees.sound c.requires.leaf (trees.leaf_path c.args.root c.args.leaf c.requires.leaf);
    }

pub holder-requires : goal.holder-requires
holder-requires c = (row_claimed c.loop-col.invariant.can c.loop-col.invariant.walk).1

pub unreachable-requires : goal.unreachable-requires
unreachable-requires c = c.in_default.ensures.none (row_claimed c.loop-col.invariant.can c.loop-col.invariant.walk).0

pub set_row-requires : goal.set_row-requires
set_row-requires c =
    let can = c.loop-col.invariant.can in
    let k = turn can c.loop-col.invariant.walk c.in-Some.ensures.found in
    record { seat = k.seat; range = (k.root, k.row, k.col); took = k.took; tree = k.row_tree; unset = row_unset can k }

pub set_col-requires : goal.set_col-requires
set_col-requires c =
    let can = c.loop-col.invariant.can in
    let k = turn can c.loop-col.invariant.walk c.in-Some.ensures.found in
    record { seat = seat_then can k c.set_row.ensures; range = (k.root, k.col, k.row); took = took_then can k c.set_row.ensures; tree = k.col_tree; unset = col_unset can k c.set_row.ensures }

pub base_row-requires : goal.base_row-requires
base_row-requires c = let can = c.loop-col.invariant.can in col_in_matrix can (turn can c.loop-col.invariant.walk c.in-Some.ensures.found)

pub loop-col-smaller : goal.loop-col-smaller
loop-col-smaller c = let can = c.loop-col.invariant.can in fewer_left can (turn can c.loop-col.invariant.walk c.in-Some.ensures.found) c.set_row.ensures c.set_col.ensures

pub loop-col-preserved : goal.loop-col-preserved
loop-col-preserved c =
    let can = c.loop-col.invariant.can in
    record { can = can; walk = comes_further can (turn can c.loop-col.invariant.walk c.in-Some.ensures.found) c.set_row.ensures c.set_col.ensures c.in-Some-base_row.next c.in-Some-base_row.ensures.found }

pub returns-in-None : goal.returns-in-None
returns-in-None c = let can = c.loop-col.invariant.can in comes_to_end can (turn can c.loop-col.invariant.walk c.in-Some.ensures.found) c.set_row.ensures c.set_col.ensures c.in-None.ensures.none
