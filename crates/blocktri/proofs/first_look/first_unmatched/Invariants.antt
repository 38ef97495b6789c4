use Rattle.std.proofs.Common.{◌≤◌}
use Rattle.blocktri.proofs.first_look.first_unmatched.Given as goal

abbrev pub invariant-loop-at : goal.invariant-loop-at
invariant-loop-at g l = l.from ≤ l.at
