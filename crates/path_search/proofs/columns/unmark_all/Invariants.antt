use Rattle.std.proofs.Common.{◌≡◌, ℕ, ◌<◌, false, slice_index_or}
use Rattle.path_search.proofs.columns.unmark_all.Given as goal

abbrev pub invariant-loop-mark : goal.invariant-loop-mark
invariant-loop-mark l = (r : ℕ) → r < l.mark-index → slice_index_or l.marks r false ≡ false
