use Rattle.integer_diagonal.specs.Distances.{AreNear}
use Rattle.integer_diagonal.proofs.distances.Distances.scan_col.Given as goal

abbrev pub invariant-loop-k : goal.invariant-loop-k
invariant-loop-k g l = AreNear l.graph.weights.now.matrix.rows l.assignment.top l.self
