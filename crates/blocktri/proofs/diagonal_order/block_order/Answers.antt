use Rattle.std.proofs.Common.{◌≡◌, ◌∙◌, ◌+◌, ap, arith, refl, subst, sym}
use Rattle.bip_defs.specs.Matrix.{Matrix, cols}
use Rattle.sp_pattern.specs.Columns.{matrix_of}
use Rattle.blocktri.specs.BlockOrders.{TellsFullRank, order_lists}
use Rattle.blocktri.specs.Compressed.{IsRoom, column_count, matrix_given}
use Rattle.blocktri.specs.Diagonal.{KeepsDiagonal}
use Rattle.blocktri.specs.PerfectMatchings.{IsPerfectMatching}
use Rattle.blocktri.proofs.CompressedLemmas.{given_by_columns, given_cols, given_rows}
use Rattle.blocktri.proofs.LookLemmas.{few_rows}
use Rattle.blocktri.proofs.SquareLemmas.{diagonal_kept, diagonal_whole, perfect_whole}
use Rattle.blocktri.proofs.diagonal_order.block_order.Goals as goal

-- A matrix that is not square.

pub returns-then-rows-columns-clause-found : goal.returns-then-rows-columns-clause-found
returns-then-rows-columns-clause-found g c =
    let l = c.args.matrix.now in
    let right = c.in_ok-check.ensures.right in
    record { compressed = right; holds = (λ square. c.if-rows-columns.true (c.rows-2.ensures ∙ sym (given_rows l) ∙ square ∙ given_cols l ∙ sym c.columns-2.ensures), refl) }

-- A full diagonal.

pub write_order-requires-clause-whole : goal.write_order-requires-clause-whole
write_order-requires-clause-whole g c =
    let l = c.args.matrix.now in
    let is = rw c.in-Diagonal.is at c.in_ok-size.ensures in
    let a = matrix_of c.given_columns.result.rows (g.N.NumberList.numbers c.given_columns.result.starts) (g.N.NumberList.numbers c.given_columns.result.ids) in
    diagonal_whole (matrix_given l) a c.in-Diagonal.size (given_by_columns l is.by_columns ∙ sym c.given_columns.ensures) is.rows_are is.columns_are is.full (c.is_square_part.ensures a)

pub write_order-requires-clause-diagonal : goal.write_order-requires-clause-diagonal
write_order-requires-clause-diagonal g c =
    let l = c.args.matrix.now in
    let is = rw c.in-Diagonal.is at c.in_ok-size.ensures in
    let a = matrix_of c.given_columns.result.rows (g.N.NumberList.numbers c.given_columns.result.starts) (g.N.NumberList.numbers c.given_columns.result.ids) in
    let same = given_by_columns l is.by_columns ∙ sym c.given_columns.ensures in
    diagonal_kept a c.in-Diagonal.size (ap (λ (x : Matrix). x.rows) (sym same) ∙ is.rows_are)

-- Another perfect matching.

pub write_order-requires-in-Perfect-clause-whole : goal.write_order-requires-in-Perfect-clause-whole
write_order-requires-in-Perfect-clause-whole g c =
    let l = c.args.matrix.now in
    let is = rw c.in-Perfect.is at c.in_ok-size.ensures in
    let a = matrix_of c.given_columns-in-Perfect.result.rows (g.N.NumberList.numbers c.given_columns-in-Perfect.result.starts) (g.N.NumberList.numbers c.given_columns-in-Perfect.result.ids) in
    perfect_whole (matrix_given l) a c.in-Perfect.matching (given_by_columns l is.0 ∙ sym c.given_columns-in-Perfect.ensures) is.1 (c.is_square_part-in-Perfect.ensures a)

pub write_order-requires-in-Perfect-clause-diagonal : goal.write_order-requires-in-Perfect-clause-diagonal
write_order-requires-in-Perfect-clause-diagonal g c =
    let l = c.args.matrix.now in
    let is = rw c.in-Perfect.is at c.in_ok-size.ensures in
    subst (λ (x : Matrix). KeepsDiagonal x c.in-Perfect.matching.pairs) (given_by_columns l is.0 ∙ sym c.given_columns-in-Perfect.ensures) is.2

-- One that is singular.

pub returns-then-size-rows-clause-found : goal.returns-then-size-rows-clause-found
returns-then-size-rows-clause-found g c =
    let l = c.args.matrix.now in
    let right = c.in_ok-check.ensures.right in
    let is = rw c.in-Searched.is at c.in_ok-size.ensures in
    let max = is.maximum in
    let size = c.size-size.ensures.size in
    let count = c.rows-in-Searched.ensures.count in
    let differ = c.if-size-rows.true in
    let of = max.matching.rows in
    let few = few_rows (matrix_given l) c.in-Searched.search.matching.pairs max.maximum.matching in
    record {
      compressed = right;
      holds = (
        record {
          square = given_rows l ∙ sym c.rows-2.ensures ∙ c.if-rows-columns.false ∙ c.columns-2.ensures ∙ sym (given_cols l);
          rank_is = (c.in-Searched.search.matching.pairs, max.maximum, sym size);
          below = omega (arith, size, count, differ, of, few);
        },
        refl,
      );
    }

pub returns-then-size-rows-clause-refused : goal.returns-then-size-rows-clause-refused
returns-then-size-rows-clause-refused g c = record {
  fit = record {
    row_order = subst (λ n. IsRoom n c.args.row_order.now) c.rows.ensures (c.is_room.ensures.0 c.if-not-is_room.false);
    column_order = subst (λ n. IsRoom n c.args.column_order.now) c.columns.ensures (c.is_room-else-not-is_room.ensures.0 c.if-not-is_room-2.false);
    block_starts = subst (λ n. IsRoom (n + 1) c.args.block_starts.now) c.columns-else-not-is_room-2.ensures (c.is_room_and_one.ensures.0 c.if-not-is_room_and_one.false);
    row_of_column = subst (λ n. IsRoom n c.args.row_of_column.now) c.columns-else-not-is_room_and_one.ensures (c.is_room-else-not-is_room_and_one.ensures.0 c.if-not-is_room-3.false);
  };
  cause = tt;
}

-- One of full rank that was searched.

pub write_order-requires-in-Searched-clause-whole : goal.write_order-requires-in-Searched-clause-whole
write_order-requires-in-Searched-clause-whole g c =
    let l = c.args.matrix.now in
    let is = rw c.in-Searched.is at c.in_ok-size.ensures in
    let m = c.in-Searched.search.matching in
    let perfect : IsPerfectMatching (matrix_given l) m = record {
      maximum = is.maximum;
      square = given_rows l ∙ sym c.rows-2.ensures ∙ c.if-rows-columns.false ∙ c.columns-2.ensures ∙ sym (given_cols l);
      full = sym c.size-size.ensures.size ∙ c.if-size-rows.false ∙ c.rows-in-Searched.ensures.count ∙ is.maximum.matching.rows;
    } in
    perfect_whole (matrix_given l) c.in-Searched.search.pattern m (sym is.pattern_is) perfect (c.is_square_part-in-Searched.ensures c.in-Searched.search.pattern)

pub write_order-requires-in-Searched-clause-diagonal : goal.write_order-requires-in-Searched-clause-diagonal
write_order-requires-in-Searched-clause-diagonal g c =
    let is = rw c.in-Searched.is at c.in_ok-size.ensures in
    subst (λ (x : Matrix). KeepsDiagonal x c.in-Searched.search.matching.pairs) (sym is.pattern_is) is.diagonal

pub write_order-requires-in-Searched-clause-room : goal.write_order-requires-in-Searched-clause-room
write_order-requires-in-Searched-clause-room g c =
    let l = c.args.matrix.now in
    let is = rw c.in-Searched.is at c.in_ok-size.ensures in
    let wide : column_count l ≡ cols c.in-Searched.search.pattern = sym (ap cols is.pattern_is ∙ given_cols l) in
    let high = c.if-rows-columns.false ∙ c.columns-2.ensures ∙ wide in
    record {
      row_order = subst (λ n. IsRoom n c.args.row_order.now) (c.rows.ensures ∙ sym c.rows-2.ensures ∙ high) (c.is_room.ensures.0 c.if-not-is_room.false);
      column_order = subst (λ n. IsRoom n c.args.column_order.now) (c.columns.ensures ∙ wide) (c.is_room-else-not-is_room.ensures.0 c.if-not-is_room-2.false);
      block_starts = subst (λ n. IsRoom (n + 1) c.args.block_starts.now) (c.columns-else-not-is_room-2.ensures ∙ wide) (c.is_room_and_one.ensures.0 c.if-not-is_room_and_one.false);
      row_of_column = subst (λ n. IsRoom n c.args.row_of_column.now) (c.columns-else-not-is_room_and_one.ensures ∙ wide) (c.is_room-else-not-is_room_and_one.ensures.0 c.if-not-is_room-3.false);
    }

pub returns-in_ok-blocks-in-Searched-clause-found : goal.returns-in_ok-blocks-in-Searched-clause-found
returns-in_ok-blocks-in-Searched-clause-found g c =
    let l = c.args.matrix.now in
    let is = rw c.in-Searched.is at c.in_ok-size.ensures in
    let old = order_lists c.args.row_order.now c.args.column_order.now c.args.block_starts.now c.args.row_of_column.now in
    let written = c.write_order-in-Searched.new in
    let new = order_lists written.row_order written.column_order written.block_starts written.row_of_column in
    record {
      compressed = c.in_ok-check.ensures.right;
      holds = (given_rows l ∙ sym c.rows-2.ensures ∙ c.if-rows-columns.false ∙ c.columns-2.ensures ∙ sym (given_cols l), subst (λ (a : Matrix). TellsFullRank a c.args.wants_blocks c.in_ok-blocks-in-Searched.blocks old new) is.pattern_is c.in_ok-blocks-in-Searched.ensures.found);
    }
