use Rattle.std.proofs.Common.{◌∙◌, ◌+◌, refl, subst, sym}
use Rattle.blocktri.specs.Compressed.{IsRoom, matrix_given}
use Rattle.blocktri.specs.GivenOrders.{ArePairsOf}
use Rattle.blocktri.proofs.CompressedLemmas.{given_cols, given_rows}
use Rattle.blocktri.proofs.PairedLemmas.{paired_told}
use Rattle.blocktri.proofs.given_orders.order_by.Goals as goal

pub returns-then-rows-columns-clause-found : goal.returns-then-rows-columns-clause-found
returns-then-rows-columns-clause-found g c =
    let l = c.args.matrix.now in
    record { compressed = c.in_ok-check.ensures.right; holds = (λ square. c.if-rows-columns.true (c.rows-2.ensures ∙ sym (given_rows l) ∙ square ∙ given_cols l ∙ sym c.columns-2.ensures), refl) }

pub blocks_by-requires-clause-full : goal.blocks_by-requires-clause-full
blocks_by-requires-clause-full g c =
    let l = c.args.matrix.now in
    c.in_ok-full.ensures.full (matrix_given l) (given_rows l ∙ sym c.rows-3.ensures) (given_cols l ∙ sym c.columns-2.ensures ∙ sym c.if-rows-columns.false ∙ c.rows-2.ensures ∙ sym c.rows-3.ensures)

pub write_paired_orders-count-requires-clause-rows : goal.write_paired_orders-count-requires-clause-rows
write_paired_orders-count-requires-clause-rows g c = subst (λ n. IsRoom n c.args.row_order.now) (c.rows.ensures ∙ sym (given_rows c.args.matrix.now) ∙ sym c.in_ok-blocks.ensures.full.rows_are) (c.is_room.ensures.0 c.if-not-is_room.false)

pub write_paired_orders-count-requires-clause-columns : goal.write_paired_orders-count-requires-clause-columns
write_paired_orders-count-requires-clause-columns g c = subst (λ n. IsRoom n c.args.column_order.now) (c.columns.ensures ∙ sym (given_cols c.args.matrix.now) ∙ sym c.in_ok-blocks.ensures.full.cols_are) (c.is_room-else-not-is_room.ensures.0 c.if-not-is_room-2.false)

pub write_paired_orders-count-requires-clause-starts : goal.write_paired_orders-count-requires-clause-starts
write_paired_orders-count-requires-clause-starts g c = subst (λ n. IsRoom (n + 1) c.args.block_starts.now) (c.columns-else-not-is_room-2.ensures ∙ sym (given_cols c.args.matrix.now) ∙ sym c.in_ok-blocks.ensures.full.cols_are) (c.is_room_and_one.ensures.0 c.if-not-is_room_and_one.false)

pub returns-clause-found : goal.returns-clause-found
returns-clause-found g c =
    let l = c.args.matrix.now in
    let a = matrix_given l in
    let m = c.in_ok-full.full in
    let put = c.write_paired_orders-count.ensures in
    record {
      compressed = c.in_ok-check.ensures.right;
      holds = record {
        pairs = m;
        are_pairs = subst (λ n. ArePairsOf n (g.N.NumberList.numbers c.args.row_of_column) m) (c.rows-3.ensures ∙ sym (given_rows l)) c.in_ok-full.ensures.pairs;
        orders = paired_told a m c.in_ok-blocks.blocks c.write_paired_orders-count.result _ _ c.in_ok-blocks.ensures put.count put.rows (put.columns a c.in_ok-blocks.ensures) put.starts;
      };
    }
