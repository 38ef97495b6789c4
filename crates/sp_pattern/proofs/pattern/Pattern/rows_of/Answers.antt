use Rattle.sp_pattern.proofs.Shape.{piece_column, piece_rows, col_fits}
use Rattle.sp_pattern.proofs.pattern.Pattern.rows_of.Goals as goal

pub part-requires-clause-at : goal.part-requires-clause-at
part-requires-clause-at c = rw (c.as_slice.ensures.value, c.col.view_is) (col_fits c.self.inside.col_starts.items c.self.inside.col_rows.items c.self.inside.row_starts.items c.args.col (rw (← c.self.view_is) at c.requires))

pub returns-clause-rows : goal.returns-clause-rows
returns-clause-rows c = rw (c.part.ensures, c.as_slice.ensures.value, c.as_slice-2.ensures.value, c.col.view_is, ← c.self.view_is) (piece_rows _ _ _ _ c.args.col c.self.invariant (rw (← c.self.view_is) at c.requires))

pub returns-clause-column : goal.returns-clause-column
returns-clause-column c = rw (c.part.ensures, c.as_slice.ensures.value, c.as_slice-2.ensures.value, c.col.view_is, ← c.self.view_is) (piece_column c.self.inside.col_starts.items c.self.inside.col_rows.items c.self.inside.row_starts.items c.args.col (rw (← c.self.view_is) at c.requires))
