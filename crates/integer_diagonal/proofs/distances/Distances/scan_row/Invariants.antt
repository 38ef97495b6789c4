use Rattle.bip_defs.specs.Matrix.{cols}
use Rattle.integer_diagonal.specs.Distances.{AreNear}
use Rattle.integer_diagonal.proofs.distances.Distances.scan_row.Given as goal

abbrev pub invariant-loop-k : goal.invariant-loop-k
invariant-loop-k g l = AreNear (cols l.graph.weights.now.matrix) l.assignment.top l.self
