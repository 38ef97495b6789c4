use Rattle.std.proofs.Common.{ℕ, ◌+◌, ◌^◌, ◌<◌, length}
use Rattle.filled_columns.proofs.fill.FilledColumns.of.Given as goal

abbrev pub invariant-loop-number : goal.invariant-loop-number
invariant-loop-number g l = (c : ℕ) → c < l.number → length (g.C.ColumnLists.listed l.columns c) + 1 < 2 ^ 32
