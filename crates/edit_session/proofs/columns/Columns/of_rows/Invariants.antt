use Rattle.std.proofs.Common.{◌≡◌, take}
use Rattle.bip_defs.specs.Matrix.{Matrix, transpose}
use Rattle.edit_session.proofs.columns.Columns.of_rows.Given as goal

abbrev pub invariant-loop-row : goal.invariant-loop-row
invariant-loop-row l = l.lists.lists ≡ take l.row (Matrix.columns (transpose l.pattern))
