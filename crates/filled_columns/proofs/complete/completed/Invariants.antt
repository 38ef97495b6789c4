use Rattle.filled_columns.proofs.Completion.{IsUnderWay}
use Rattle.filled_columns.proofs.complete.completed.Given as goal

abbrev pub invariant-loop-col : goal.invariant-loop-col
invariant-loop-col l = IsUnderWay l.fn.matching l.full l.from l.col
