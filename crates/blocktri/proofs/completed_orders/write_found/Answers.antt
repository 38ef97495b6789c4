use Rattle.std.proofs.Common.{◌∙◌, ◌+◌, arith, refl, subst, sym}
use Rattle.blocktri.specs.Compressed.{IsRoom}
use Rattle.blocktri.proofs.CompletedLemmas.{full_blocks, told_with_blocks, told_without_blocks}
use Rattle.blocktri.proofs.completed_orders.write_found.Goals as goal

pub write_wanted_rows-requires-clause-few : goal.write_wanted_rows-requires-clause-few
write_wanted_rows-requires-clause-few c =
    let (a, wanted, few, is) = c.requires.some in
    let rows = is.maximum.matching.rows in
    omega (arith, few, rows)

pub returns-in-None : goal.returns-in-None
returns-in-None c = λ a wanted is.
    let f = c.args.found.now in
    told_without_blocks a wanted f.matching f.completed f.blocks is c.size-rank.result _ _ c.in-None.is c.size-rank.ensures.size c.write_wanted_rows.ensures refl refl refl

pub write_paired_orders-count-requires-clause-some : goal.write_paired_orders-count-requires-clause-some
write_paired_orders-count-requires-clause-some c =
    let (a, wanted, few, is) = c.requires.some in
    let f = c.args.found.now in
    (a, full_blocks a wanted f.matching f.completed f.blocks is c.in-Some.blocks c.full-full.result.now c.in-Some.is c.full-full.ensures, few)

pub write_paired_orders-count-requires-clause-rows : goal.write_paired_orders-count-requires-clause-rows
write_paired_orders-count-requires-clause-rows c =
    let (a, wanted, few, is) = c.requires.some in
    let f = c.args.found.now in
    let whole = full_blocks a wanted f.matching f.completed f.blocks is c.in-Some.blocks c.full-full.result.now c.in-Some.is c.full-full.ensures in
    subst (λ n. IsRoom n c.args.row_order.now) (is.maximum.matching.rows ∙ sym whole.full.rows_are) c.requires.rows

pub write_paired_orders-count-requires-clause-columns : goal.write_paired_orders-count-requires-clause-columns
write_paired_orders-count-requires-clause-columns c =
    let (a, wanted, few, is) = c.requires.some in
    let f = c.args.found.now in
    let whole = full_blocks a wanted f.matching f.completed f.blocks is c.in-Some.blocks c.full-full.result.now c.in-Some.is c.full-full.ensures in
    subst (λ n. IsRoom n c.args.column_order.now) (is.maximum.matching.cols ∙ sym whole.full.cols_are) c.requires.columns

pub write_paired_orders-count-requires-clause-starts : goal.write_paired_orders-count-requires-clause-starts
write_paired_orders-count-requires-clause-starts c =
    let (a, wanted, few, is) = c.requires.some in
    let f = c.args.found.now in
    let whole = full_blocks a wanted f.matching f.completed f.blocks is c.in-Some.blocks c.full-full.result.now c.in-Some.is c.full-full.ensures in
    subst (λ n. IsRoom (n + 1) c.args.block_starts.now) (is.maximum.matching.cols ∙ sym whole.full.cols_are) c.requires.starts

pub returns-in-Some : goal.returns-in-Some
returns-in-Some c = λ a wanted is.
    let f = c.args.found.now in
    let put = c.write_paired_orders-count.ensures in
    told_with_blocks a wanted f.matching f.completed f.blocks is c.in-Some.blocks c.full-full.result.now c.size-rank.result c.write_paired_orders-count.result _ _ c.in-Some.is c.full-full.ensures c.size-rank.ensures.size put.count c.write_wanted_rows.ensures put.rows (put.columns a) put.starts
