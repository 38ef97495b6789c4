use Rattle.blocktri.specs.Compressed.{matrix_given}
use Rattle.blocktri.specs.Dmperm.{HaveDmpermRoom, dmperm_lists, permuted_lists}
use Rattle.blocktri.proofs.DmpermLemmas.{dmperm_told, refused_as, room_given, room_of_matching}
use Rattle.blocktri.proofs.FormLemmas.{given_small, room_for_columns, room_for_rows}
use Rattle.sp_pattern.specs.declared.columns.ColumnsError.TheVariants.{OutOfMemory}
use Rattle.blocktri.proofs.dm_permutations.dmperm.Goals as goal

pub returns-in_err-check-clause-refused : goal.returns-in_err-check-clause-refused
returns-in_err-check-clause-refused g c =
    refused_as (HaveDmpermRoom c.args.matrix.now (dmperm_lists c.args.p.now c.args.q.now c.args.r.now c.args.s.now c.args.row_of_column.now c.args.row_component.now c.args.column_component.now)) c.args.matrix.now c.from_residual.result c.in_err-check.field-0.0 c.from_residual.ensures.1 (c.has_room.ensures.0 c.if-not-has_room.false) c.in_err-check.ensures.refused

pub returns-in_err-found-clause-refused : goal.returns-in_err-found-clause-refused
returns-in_err-found-clause-refused g c =
    refused_as (HaveDmpermRoom c.args.matrix.now (dmperm_lists c.args.p.now c.args.q.now c.args.r.now c.args.s.now c.args.row_of_column.now c.args.row_component.now c.args.column_component.now)) c.args.matrix.now c.from_residual-in_err-found.result OutOfMemory c.from_residual-in_err-found.ensures.1 (c.has_room.ensures.0 c.if-not-has_room.false) c.in_ok-check.ensures.right

pub returns-in_err-write_permutations-clause-refused : goal.returns-in_err-write_permutations-clause-refused
returns-in_err-write_permutations-clause-refused g c =
    refused_as (HaveDmpermRoom c.args.matrix.now (dmperm_lists c.args.p.now c.args.q.now c.args.r.now c.args.s.now c.args.row_of_column.now c.args.row_component.now c.args.column_component.now)) c.args.matrix.now c.from_residual-in_err-write_permutations.result OutOfMemory c.from_residual-in_err-write_permutations.ensures.1 (c.has_room.ensures.0 c.if-not-has_room.false) c.in_ok-check.ensures.right

pub write_permutations-requires : goal.write_permutations-requires
write_permutations-requires g c =
    let l = c.args.matrix.now in
    let right = c.in_ok-check.ensures.right in
    let room = c.has_room.ensures.0 c.if-not-has_room.false in
    let small = given_small l right in
    record { some = (matrix_given l, c.args.wants, c.in_ok-found.ensures, small.0, small.1, room_given l (permuted_lists c.args.p.now c.args.q.now c.args.r.now c.args.s.now) right room.permuted) }

pub write_wanted_rows-requires-clause-room : goal.write_wanted_rows-requires-clause-room
write_wanted_rows-requires-clause-room g c =
    let l = c.args.matrix.now in
    let right = c.in_ok-check.ensures.right in
    let room = c.has_room.ensures.0 c.if-not-has_room.false in
    room_of_matching (matrix_given l) c.in_ok-found.found.matching c.args.row_of_column.now c.in_ok-found.ensures.maximum.matching (room_for_columns l c.args.row_of_column.now right room.row_of_column)

pub write_outer-requires : goal.write_outer-requires
write_outer-requires g c =
    let l = c.args.matrix.now in
    let right = c.in_ok-check.ensures.right in
    let room = c.has_room.ensures.0 c.if-not-has_room.false in
    record { some = (matrix_given l, c.args.wants.components, c.in_ok-found.ensures.outer, room_for_rows l c.args.row_component.now right room.row_component, room_for_columns l c.args.column_component.now right room.column_component) }

pub sizes_of-requires : goal.sizes_of-requires
sizes_of-requires g c =
    let l = c.args.matrix.now in
    let small = given_small l c.in_ok-check.ensures.right in
    (matrix_given l, c.args.wants, c.in_ok-found.ensures, small.0, small.1)

pub returns-clause-found : goal.returns-clause-found
returns-clause-found g c =
    let l = c.args.matrix.now in
    let right = c.in_ok-check.ensures.right in
    let room = c.has_room.ensures.0 c.if-not-has_room.false in
    let a = matrix_given l in
    let found = c.in_ok-found.ensures in
    record {
      compressed = right;
      holds = dmperm_told a c.args.wants c.in_ok-found.found c.sizes_of.result
          (dmperm_lists c.args.p.now c.args.q.now c.args.r.now c.args.s.now c.args.row_of_column.now c.args.row_component.now c.args.column_component.now)
          (dmperm_lists c.write_permutations.new.p c.write_permutations.new.q c.write_permutations.new.r c.write_permutations.new.s c.write_wanted_rows.new.row_of_column c.write_outer.new.row_component c.write_outer.new.column_component)
          found (c.sizes_of.ensures a c.args.wants found) c.write_wanted_rows.ensures (c.in_ok-write_permutations.ensures.written a c.args.wants found)
          (c.write_outer.ensures.rows a c.args.wants.components found.outer (room_for_rows l c.args.row_component.now right room.row_component))
          (c.write_outer.ensures.columns a c.args.wants.components found.outer (room_for_columns l c.args.column_component.now right room.column_component));
    }

pub returns-clause-refused : goal.returns-clause-refused
returns-clause-refused g c = record { fit = c.has_room.ensures.0 c.if-not-has_room.false; cause = tt }
