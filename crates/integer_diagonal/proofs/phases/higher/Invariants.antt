use Rattle.std.proofs.Common.{◌≡◌, length}
use Rattle.integer_diagonal.proofs.phases.higher.Given as goal

abbrev pub invariant-loop-vertex : goal.invariant-loop-vertex
invariant-loop-vertex g l = length l.higher.items ≡ l.vertex
