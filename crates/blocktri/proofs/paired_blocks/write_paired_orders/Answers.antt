use Rattle.std.proofs.Common.{◌≡◌, ◌∙◌, ◌+◌, ◌≤◌, ℕ, ap, arith, length, List, subst, sym}
use Rattle.bip_defs.specs.Blocks.{all_rows}
use Rattle.bip_defs.specs.Lists.{Among}
use Rattle.bip_defs.specs.Matching.{rows_of}
use Rattle.blocktri.specs.Compressed.{IsRoom}
use Rattle.blocktri.specs.SquareForms.{square_decomposition}
use Rattle.blocktri.proofs.PairedLemmas.{block_count, columns_told, row_count_of, rows_in_blocks}
use Rattle.blocktri.proofs.paired_blocks.write_paired_orders.Goals as goal

pub write_rows-requires : goal.write_rows-requires
write_rows-requires c =
    let (a, is, few) = c.requires.some in
    subst (λ n. IsRoom n c.args.row_order.now) (rw c.all_rows.ensures (sym (row_count_of a c.args.full.now c.args.blocks.now is))) c.requires.rows

pub write_mates_of_rows-requires-clause-matched : goal.write_mates_of_rows-requires-clause-matched
write_mates_of_rows-requires-clause-matched c = λ r h.
    let (a, is, few) = c.requires.some in
    is.full.rows.complete r ((rows_in_blocks a c.args.full.now c.args.blocks.now is).sound r (rw c.all_rows-2.ensures at h))

pub write_mates_of_rows-requires-clause-room : goal.write_mates_of_rows-requires-clause-room
write_mates_of_rows-requires-clause-room c =
    let (a, is, few) = c.requires.some in
    let rows = row_count_of a c.args.full.now c.args.blocks.now is in
    subst (λ n. IsRoom n c.args.column_order.now) (rw c.all_rows-2.ensures (is.full.cols_are ∙ sym is.full.square ∙ sym is.full.rows_are ∙ sym rows)) c.requires.columns

pub write_starts-requires-clause-room : goal.write_starts-requires-clause-room
write_starts-requires-clause-room c =
    let (a, is, few) = c.requires.some in
    let most = block_count a c.args.full.now c.args.blocks.now is (c.filled_matrix_is_full.ensures.maximum a c.args.full.now is.full) in
    let room = c.requires.starts in
    let some = c.if-block_starts-ne0.true in
    omega (arith, most, room, some)

pub write_starts-requires-clause-few : goal.write_starts-requires-clause-few
write_starts-requires-clause-few c =
    let (a, is, few) = c.requires.some in
    let rows = row_count_of a c.args.full.now c.args.blocks.now is in
    let of = is.full.rows_are in
    omega (arith, few, rows, of)

pub overflow_cast-result : goal.overflow_cast-result
overflow_cast-result c =
    let (a, is, few) = c.requires.some in
    let most = block_count a c.args.full.now c.args.blocks.now is (c.filled_matrix_is_full.ensures.maximum a c.args.full.now is.full) in
    let len = c.len.ensures in
    let broad = is.full.cols_are in
    let square = is.full.square in
    omega (arith, few, most, len, broad, square)

pub returns-clause-columns : goal.returns-clause-columns
returns-clause-columns c = λ a is.
    columns_told a c.args.full.now c.args.blocks.now c.args.column_order.now c.write_mates_of_rows.new.column_order c.all_rows-2.result.now is (c.filled_matrix_is_full.ensures.maximum a c.args.full.now is.full) c.requires.columns c.all_rows-2.ensures c.write_mates_of_rows.ensures
