use Rattle.integer_diagonal.specs.FirstPrices.{AreFirstDuals}
use Rattle.integer_diagonal.proofs.start.first_duals.Given as goal

abbrev pub invariant-loop-col : goal.invariant-loop-col
invariant-loop-col g l = AreFirstDuals l.weights l.top l.col l.duals.items
