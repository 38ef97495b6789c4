use Rattle.integer_diagonal.specs.Distances.{AreNear}
use Rattle.integer_diagonal.proofs.distances.Distances.settle.Given as goal

abbrev pub invariant-loop-turn : goal.invariant-loop-turn
invariant-loop-turn g l = AreNear l.graph.weights.now.matrix.rows l.assignment.top l.self
