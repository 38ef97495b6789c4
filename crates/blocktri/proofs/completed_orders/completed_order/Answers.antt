use Rattle.std.proofs.Common.{◌∙◌, ◌+◌, refl, subst, sym}
use Rattle.blocktri.specs.Compressed.{IsRoom, matrix_given}
use Rattle.blocktri.proofs.CompressedLemmas.{given_cols, given_rows}
use Rattle.blocktri.proofs.FormLemmas.{given_small}
use Rattle.blocktri.proofs.completed_orders.completed_order.Goals as goal

pub returns-then-rows-columns-clause-found : goal.returns-then-rows-columns-clause-found
returns-then-rows-columns-clause-found g c =
    let l = c.args.matrix.now in
    record { compressed = c.in_ok-check.ensures.right; holds = (λ square. c.if-rows-columns.true (c.rows-2.ensures ∙ sym (given_rows l) ∙ square ∙ given_cols l ∙ sym c.columns-2.ensures), refl) }

pub find_completed-requires-clause-square : goal.find_completed-requires-clause-square
find_completed-requires-clause-square g c = given_rows c.args.matrix.now ∙ sym c.rows-2.ensures ∙ c.if-rows-columns.false ∙ c.columns-2.ensures ∙ sym (given_cols c.args.matrix.now)

pub write_found-requires-clause-some : goal.write_found-requires-clause-some
write_found-requires-clause-some g c =
    let l = c.args.matrix.now in
    (matrix_given l, c.args.wants_blocks, (given_small l c.in_ok-check.ensures.right).0, c.in_ok-found.ensures)

pub write_found-requires-clause-rows : goal.write_found-requires-clause-rows
write_found-requires-clause-rows g c = subst (λ n. IsRoom n c.args.row_order.now) (c.rows.ensures ∙ sym (given_rows c.args.matrix.now) ∙ sym c.in_ok-found.ensures.maximum.matching.rows) (c.is_room.ensures.0 c.if-not-is_room.false)

pub write_found-requires-clause-columns : goal.write_found-requires-clause-columns
write_found-requires-clause-columns g c = subst (λ n. IsRoom n c.args.column_order.now) (c.columns.ensures ∙ sym (given_cols c.args.matrix.now) ∙ sym c.in_ok-found.ensures.maximum.matching.cols) (c.is_room-else-not-is_room.ensures.0 c.if-not-is_room-2.false)

pub write_found-requires-clause-starts : goal.write_found-requires-clause-starts
write_found-requires-clause-starts g c = subst (λ n. IsRoom (n + 1) c.args.block_starts.now) (c.columns-else-not-is_room-2.ensures ∙ sym (given_cols c.args.matrix.now) ∙ sym c.in_ok-found.ensures.maximum.matching.cols) (c.is_room_and_one.ensures.0 c.if-not-is_room_and_one.false)

pub write_found-requires-clause-mates : goal.write_found-requires-clause-mates
write_found-requires-clause-mates g c = subst (λ n. IsRoom n c.args.row_of_column.now) (c.columns-else-not-is_room_and_one.ensures ∙ sym (given_cols c.args.matrix.now) ∙ sym c.in_ok-found.ensures.maximum.matching.cols) (c.is_room-else-not-is_room_and_one.ensures.0 c.if-not-is_room-3.false)

pub returns-clause-found : goal.returns-clause-found
returns-clause-found g c = record { compressed = c.in_ok-check.ensures.right; holds = c.write_found.ensures (matrix_given c.args.matrix.now) c.args.wants_blocks c.in_ok-found.ensures }

pub returns-clause-refused : goal.returns-clause-refused
returns-clause-refused g c = record {
  fit = record {
    row_order = subst (λ n. IsRoom n c.args.row_order.now) c.rows.ensures (c.is_room.ensures.0 c.if-not-is_room.false);
    column_order = subst (λ n. IsRoom n c.args.column_order.now) c.columns.ensures (c.is_room-else-not-is_room.ensures.0 c.if-not-is_room-2.false);
    block_starts = subst (λ n. IsRoom (n + 1) c.args.block_starts.now) c.columns-else-not-is_room-2.ensures (c.is_room_and_one.ensures.0 c.if-not-is_room_and_one.false);
    row_of_column = subst (λ n. IsRoom n c.args.row_of_column.now) c.columns-else-not-is_room_and_one.ensures (c.is_room-else-not-is_room_and_one.ensures.0 c.if-not-is_room-3.false);
  };
  cause = tt;
}
