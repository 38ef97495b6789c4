use Rattle.filled_columns.specs.Completed.{AreTaken}
use Rattle.filled_columns.proofs.complete.first_free.Given as goal

abbrev pub invariant-loop-row : goal.invariant-loop-row
invariant-loop-row l = AreTaken l.matching l.from l.row
