use Rattle.std.proofs.Common.{◌≡◌}
use Rattle.bip_graph.proofs.Backwards.{turned_to}
use Rattle.bip_graph.proofs.opposite.transpose_path.Given as goal

abbrev pub invariant-loop-at : goal.invariant-loop-at
invariant-loop-at l = l.path ≡ turned_to l.at l.initial.path
