use Rattle.bip_defs.proofs.Transposed.{turned_marks, vertical_col_marks_turned}
use Rattle.dm_coarse.proofs.coarse_by_cols.Goals as goal

pub mark_horizontal_cols-requires-clause-maximum : goal.mark_horizontal_cols-requires-clause-maximum
mark_horizontal_cols-requires-clause-maximum c = (c.matchings_of_the_transpose.ensures.maximum _ _).0 c.requires.maximum

pub mark_horizontal_cols-requires-clause-rows : goal.mark_horizontal_cols-requires-clause-rows
mark_horizontal_cols-requires-clause-rows c = vertical_col_marks_turned c.args.pattern.now c.args.vertical.now c.requires.cols

pub parts_by-requires : goal.parts_by-requires
parts_by-requires c = rw (c.as_slice.ensures.value, c.as_slice-2.ensures.value) (record { maximum = c.requires.maximum; horizontal = c.in_ok-cols.ensures; vertical = turned_marks _ _ c.in_ok-rows.ensures })
