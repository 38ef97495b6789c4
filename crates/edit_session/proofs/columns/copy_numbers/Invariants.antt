use Rattle.std.proofs.Common.{◌≡◌, take}
use Rattle.edit_session.proofs.columns.copy_numbers.Given as goal

abbrev pub invariant-loop-col : goal.invariant-loop-col
invariant-loop-col l = l.list.items ≡ take l.col-index l.cols
