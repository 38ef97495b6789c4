use Rattle.std.proofs.Common.{◌<◌, sym, subst, length, arith}
use Rattle.bip_defs.proofs.Sets.{rising_distinct}
use Rattle.flip_words.specs.WordCodes.{half}
use Rattle.flip_words.proofs.OpenedWords.{col_within, laid_col, laid_row, mate_fits, mate_of_col, mate_of_row, row_within, tree_fits}
use Rattle.flip_words.proofs.opening.lay_words.Goals as goal

pub lay-requires-clause-tree : goal.lay-requires-clause-tree
lay-requires-clause-tree c =
    let few : c.args.matching.now.cols < half = omega (arith, c.cols-cols.ensures.count, c.cols-cols.type_inv) in
    let there : c.loop-row.row < length c.args.row_tree.now = omega (arith, c.loop-row-test.true, c.rows-rows.ensures.count, c.requires.row_tree.as_many) in
    tree_fits c.requires.row_tree few c.loop-row.row c.index-row_tree-row.result there c.index-row_tree-row.is

pub lay-requires-clause-mate : goal.lay-requires-clause-mate
lay-requires-clause-mate c =
    let few : c.args.matching.now.cols < half = omega (arith, c.cols-cols.ensures.count, c.cols-cols.type_inv) in
    subst (λ n. n < half) (sym c.col_code.ensures) (mate_fits c.col_of-mate.result c.args.matching.now.cols (col_within c.args.matching.now.pairs c.loop-row.row c.args.matching.now.cols c.col_of-mate.result c.col_of-mate.ensures.found c.cols-cols.ensures.within) few)

pub loop-row-preserved : goal.loop-row-preserved
loop-row-preserved c =
    let few : c.args.matching.now.cols < half = omega (arith, c.cols-cols.ensures.count, c.cols-cols.type_inv) in
    let there : c.loop-row.row < length c.args.row_tree.now = omega (arith, c.loop-row-test.true, c.rows-rows.ensures.count, c.requires.row_tree.as_many) in
    let fits = mate_fits c.col_of-mate.result c.args.matching.now.cols (col_within c.args.matching.now.pairs c.loop-row.row c.args.matching.now.cols c.col_of-mate.result c.col_of-mate.ensures.found c.cols-cols.ensures.within) few in
    let mate = mate_of_row c.args.matching.now c.loop-row.row c.col_of-mate.result c.is_matching.ensures.rows_differ (omega (arith, c.loop-row-test.true, c.rows-rows.ensures.count)) c.col_of-mate.ensures.found c.col_of-mate.ensures.none in
    laid_row c.args.matching.now c.args.row_tree.now c.loop-row.row c.loop-row.words.items c.lay.new.words.items c.index-row_tree-row.result c.col_of-mate.result c.col_code.result c.loop-row.invariant there c.index-row_tree-row.is c.col_code.ensures fits mate c.in_ok-lay.ensures

pub lay-requires-in-loop-col-clause-tree : goal.lay-requires-in-loop-col-clause-tree
lay-requires-in-loop-col-clause-tree c =
    let few : c.args.matching.now.cols < half = omega (arith, c.cols-cols.ensures.count, c.cols-cols.type_inv) in
    let there : c.loop-col.col < length c.args.col_tree.now = omega (arith, c.loop-col-test.true, c.cols-cols.ensures.count, c.requires.col_tree.as_many) in
    tree_fits c.requires.col_tree few c.loop-col.col c.index-col_tree-col.result there c.index-col_tree-col.is

pub lay-requires-in-loop-col-clause-mate : goal.lay-requires-in-loop-col-clause-mate
lay-requires-in-loop-col-clause-mate c =
    let few : c.args.matching.now.rows < half = omega (arith, c.rows-rows.ensures.count, c.rows-rows.type_inv) in
    subst (λ n. n < half) (sym c.row_code.ensures) (mate_fits c.row_of-mate.result c.args.matching.now.rows (row_within c.args.matching.now.pairs c.loop-col.col c.args.matching.now.rows c.row_of-mate.result c.row_of-mate.ensures.found c.rows-rows.ensures.within) few)

pub loop-col-preserved : goal.loop-col-preserved
loop-col-preserved c =
    let few : c.args.matching.now.rows < half = omega (arith, c.rows-rows.ensures.count, c.rows-rows.type_inv) in
    let there : c.loop-col.col < length c.args.col_tree.now = omega (arith, c.loop-col-test.true, c.cols-cols.ensures.count, c.requires.col_tree.as_many) in
    let fits = mate_fits c.row_of-mate.result c.args.matching.now.rows (row_within c.args.matching.now.pairs c.loop-col.col c.args.matching.now.rows c.row_of-mate.result c.row_of-mate.ensures.found c.rows-rows.ensures.within) few in
    let mate = mate_of_col c.args.matching.now c.loop-col.col c.row_of-mate.result (rising_distinct _ c.is_matching.ensures.cols_rise) c.row_of-mate.ensures.found c.row_of-mate.ensures.none in
    laid_col c.args.matching.now c.args.row_tree.now c.args.col_tree.now c.loop-col.col c.loop-col.words.items c.lay-in-loop-col.new.words.items c.index-col_tree-col.result c.row_of-mate.result c.row_code.result c.loop-col.invariant c.requires.row_tree.as_many there c.index-col_tree-col.is c.row_code.ensures fits mate c.in_ok-lay-2.ensures
