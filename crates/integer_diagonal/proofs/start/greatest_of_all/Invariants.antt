use Rattle.integer_diagonal.proofs.StartLemmas.{AreFirstAtMost}
use Rattle.integer_diagonal.proofs.start.greatest_of_all.Given as goal

abbrev pub invariant-loop-col : goal.invariant-loop-col
invariant-loop-col l = AreFirstAtMost l.weights l.col l.most
