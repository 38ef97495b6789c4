use Rattle.std.proofs.Common.{◌≡◌}
use Rattle.integer_diagonal.specs.Mated.{AreMated}
use Rattle.integer_diagonal.proofs.searches.match_early.Given as goal

abbrev pub invariant-loop-col : goal.invariant-loop-col
invariant-loop-col g l = record {
  mated : AreMated l.weights l.assignment l.paths l.col;
  top : l.assignment.top ≡ l.fn.assignment.top;
}
