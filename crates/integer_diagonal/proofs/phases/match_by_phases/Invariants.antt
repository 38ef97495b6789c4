use Rattle.bip_defs.specs.Matrix.{cols}
use Rattle.integer_diagonal.specs.Amounts.{HasRoom}
use Rattle.integer_diagonal.specs.Duals.{IsAssignment}
use Rattle.integer_diagonal.proofs.phases.match_by_phases.Given as goal

abbrev pub invariant-loop-turn : goal.invariant-loop-turn
invariant-loop-turn g l = record {
  assignment : IsAssignment l.graph.weights.now l.assignment;
  room : HasRoom (cols l.graph.weights.now.matrix) l.assignment.top g.W.Width.limit;
}
