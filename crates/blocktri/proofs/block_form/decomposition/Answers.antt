use Rattle.blocktri.specs.Compressed.{matrix_given}
use Rattle.blocktri.specs.Forms.{form_lists}
use Rattle.blocktri.proofs.FormLemmas.{form_told, given_small, room_for_columns, room_for_rows, room_for_starts}
use Rattle.blocktri.proofs.block_form.decomposition.Goals as goal

pub write_shape-requires : goal.write_shape-requires
write_shape-requires g c =
    let l = c.args.matrix.now in
    let right = c.in_ok-check.ensures.right in
    let room = c.has_room.ensures.0 c.if-not-has_room.false in
    record { some = (matrix_given l, c.args.wants.blocks, c.in_ok-found.ensures.shape, (given_small l right).0, room_for_rows l c.args.row_order.now right room.row_order, room_for_columns l c.args.column_order.now right room.column_order, room_for_starts l c.args.block_starts.now right room.block_starts) }

pub write_outer-requires : goal.write_outer-requires
write_outer-requires g c =
    let l = c.args.matrix.now in
    let right = c.in_ok-check.ensures.right in
    let room = c.has_room.ensures.0 c.if-not-has_room.false in
    record { some = (matrix_given l, c.args.wants.components, c.in_ok-found.ensures.outer, room_for_rows l c.args.row_component.now right room.row_component, room_for_columns l c.args.column_component.now right room.column_component) }

pub sizes_of-requires : goal.sizes_of-requires
sizes_of-requires g c =
    let l = c.args.matrix.now in
    let small = given_small l c.in_ok-check.ensures.right in
    (matrix_given l, c.args.wants, c.in_ok-found.ensures, small.0, small.1)

pub returns-clause-found : goal.returns-clause-found
returns-clause-found g c =
    let l = c.args.matrix.now in
    let a = matrix_given l in
    let right = c.in_ok-check.ensures.right in
    let room = c.has_room.ensures.0 c.if-not-has_room.false in
    let outer = c.in_ok-found.ensures.outer in
    record {
      compressed = right;
      holds = form_told a c.args.wants c.in_ok-found.found c.sizes_of.result
          (form_lists c.args.row_order.now c.args.column_order.now c.args.block_starts.now c.args.row_component.now c.args.column_component.now)
          (form_lists c.write_shape.new.row_order c.write_shape.new.column_order c.write_shape.new.block_starts c.write_outer.new.row_component c.write_outer.new.column_component)
          c.in_ok-found.ensures (c.sizes_of.ensures a c.args.wants c.in_ok-found.ensures) (record {
            rows = c.write_shape.ensures.rows;
            columns = c.write_shape.ensures.columns;
            starts = c.write_shape.ensures.starts;
            row_components = c.write_outer.ensures.rows a c.args.wants.components outer (room_for_rows l c.args.row_component.now right room.row_component);
            column_components = c.write_outer.ensures.columns a c.args.wants.components outer (room_for_columns l c.args.column_component.now right room.column_component);
          });
    }

pub returns-clause-refused : goal.returns-clause-refused
returns-clause-refused g c = record { fit = c.has_room.ensures.0 c.if-not-has_room.false; cause = tt }
