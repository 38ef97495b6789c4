use Rattle.std.proofs.Common.{◌≡◌, ◌+◌, ◌<◌, ◌^◌, ℕ, arith, length, refl, subst, sym}
use Rattle.bip_defs.specs.Matrix.{Matrix, cols}
use Rattle.blocktri.specs.Compressed.{IsRoom}
use Rattle.blocktri.specs.SquareForms.{square_decomposition}
use Rattle.blocktri.proofs.DiagonalOrderLemmas.{order_told}
use Rattle.blocktri.proofs.SquareLemmas.{columns_long, columns_matched, rows_long, rows_told, size}
use Rattle.blocktri.proofs.diagonal_order.write_order.Goals as goal

-- Without the blocks.

pub write_mates_by_number-requires-clause-few : goal.write_mates_by_number-requires-clause-few
write_mates_by_number-requires-clause-few g c =
    let room = c.requires.room.row_of_column in
    let few = c.requires.whole.part.few in
    let high = size (g.C.ColumnLists.matrix c.args.columns) (g.S.SquarePart.rows c.args.part) (g.S.SquarePart.cols c.args.part) (g.S.SquarePart.pairs c.args.part) c.requires.whole in
    let square = c.requires.whole.square in
    omega (arith, room, few, high, square)

pub write_mates_by_number-requires-clause-matched : goal.write_mates_by_number-requires-clause-matched
write_mates_by_number-requires-clause-matched g c = λ k lt. let room = c.requires.room.row_of_column in c.requires.whole.perfect.all_cols k (omega (arith, room, lt))

pub returns-then-not-wants_blocks-clause-found : goal.returns-then-not-wants_blocks-clause-found
returns-then-not-wants_blocks-clause-found g c =
    let a = g.C.ColumnLists.matrix c.args.columns in
    let rows = g.S.SquarePart.rows c.args.part in
    let few = c.requires.whole.part.few in
    let high = size a rows (g.S.SquarePart.cols c.args.part) (g.S.SquarePart.pairs c.args.part) c.requires.whole in
    record {
      pairs = g.S.SquarePart.pairs c.args.part;
      perfect = c.requires.whole.perfect;
      diagonal = c.requires.diagonal;
      mates = rows_told a rows (g.S.SquarePart.cols c.args.part) (g.S.SquarePart.pairs c.args.part) c.requires.whole c.args.row_of_column.now c.write_mates_by_number.new.rows (omega (arith, few, high)) c.requires.room.row_of_column c.write_mates_by_number.ensures;
      orders = rw c.if-not-wants_blocks.true (record { count_is = refl; rows = refl; columns = refl; starts = refl });
    }

-- With them.

pub write_mates-requires-clause-matched : goal.write_mates-requires-clause-matched
write_mates-requires-clause-matched g c = columns_matched (g.C.ColumnLists.matrix c.args.columns) (g.S.SquarePart.rows c.args.part) (g.S.SquarePart.cols c.args.part) (g.S.SquarePart.pairs c.args.part) c.requires.whole c.in_ok-form.form c.in_ok-form.ensures

pub write_mates-requires-clause-room : goal.write_mates-requires-clause-room
write_mates-requires-clause-room g c = subst (λ (n : ℕ). IsRoom n c.args.row_order.now)
    (sym (columns_long (g.C.ColumnLists.matrix c.args.columns) (g.S.SquarePart.rows c.args.part) (g.S.SquarePart.cols c.args.part) (g.S.SquarePart.pairs c.args.part) c.requires.whole c.in_ok-form.form c.in_ok-form.ensures)) c.requires.room.row_order

pub write_columns-requires : goal.write_columns-requires
write_columns-requires g c = subst (λ (n : ℕ). IsRoom n c.args.column_order.now)
    (sym (columns_long (g.C.ColumnLists.matrix c.args.columns) (g.S.SquarePart.rows c.args.part) (g.S.SquarePart.cols c.args.part) (g.S.SquarePart.pairs c.args.part) c.requires.whole c.in_ok-form.form c.in_ok-form.ensures)) c.requires.room.column_order

pub write_starts-requires : goal.write_starts-requires
write_starts-requires g c = subst (λ (n : ℕ). IsRoom (n + 1) c.args.block_starts.now)
    (sym (rows_long (g.C.ColumnLists.matrix c.args.columns) (g.S.SquarePart.rows c.args.part) (g.S.SquarePart.cols c.args.part) (g.S.SquarePart.pairs c.args.part) c.requires.whole c.in_ok-form.form c.in_ok-form.ensures)) c.requires.room.block_starts

pub write_mates_by_number-requires-2-clause-few : goal.write_mates_by_number-requires-2-clause-few
write_mates_by_number-requires-2-clause-few g c =
    let room = c.requires.room.row_of_column in
    let few = c.requires.whole.part.few in
    let high = size (g.C.ColumnLists.matrix c.args.columns) (g.S.SquarePart.rows c.args.part) (g.S.SquarePart.cols c.args.part) (g.S.SquarePart.pairs c.args.part) c.requires.whole in
    let square = c.requires.whole.square in
    omega (arith, room, few, high, square)

pub write_mates_by_number-requires-2-clause-matched : goal.write_mates_by_number-requires-2-clause-matched
write_mates_by_number-requires-2-clause-matched g c = λ k lt. let room = c.requires.room.row_of_column in c.requires.whole.perfect.all_cols k (omega (arith, room, lt))

pub returns-clause-found : goal.returns-clause-found
returns-clause-found g c =
    let a = g.C.ColumnLists.matrix c.args.columns in
    let rows = g.S.SquarePart.rows c.args.part in
    let columns = g.S.SquarePart.cols c.args.part in
    let pairs = g.S.SquarePart.pairs c.args.part in
    let few = c.requires.whole.part.few in
    let high = size a rows columns pairs c.requires.whole in
    let wanted = c.if-not-wants_blocks.false in
    record {
      pairs = pairs;
      perfect = c.requires.whole.perfect;
      diagonal = c.requires.diagonal;
      mates = rows_told a rows columns pairs c.requires.whole c.args.row_of_column.now c.write_mates_by_number-2.new.rows (omega (arith, few, high)) c.requires.room.row_of_column c.write_mates_by_number-2.ensures;
      orders = rw wanted (order_told a (square_decomposition (length rows) c.in_ok-form.form) pairs c.count.result _ _ c.in_ok-form.ensures c.requires.whole.perfect c.requires.whole.square c.requires.room.row_order c.count.ensures c.write_mates.ensures c.write_columns.ensures c.write_starts.ensures);
    }
