use Rattle.integer_diagonal.specs.Distances.{AreNear}
use Rattle.integer_diagonal.proofs.distances.Distances.spread.Given as goal

abbrev pub invariant-loop-near : goal.invariant-loop-near
invariant-loop-near g l = AreNear l.graph.weights.now.matrix.rows l.assignment.top l.distances
