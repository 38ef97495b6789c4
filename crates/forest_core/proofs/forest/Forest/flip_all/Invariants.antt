use Rattle.std.proofs.Common.{◌≡◌, ◌++◌}
use Rattle.forest_core.specs.Paths.{with_flipped}
use Rattle.forest_core.proofs.FlippedRoots.{unflipped_to}
use Rattle.forest_core.proofs.forest.Forest.flip_all.Given as goal

abbrev pub invariant-loop-i : goal.invariant-loop-i
invariant-loop-i l = l.self ≡ with_flipped l.fn.self (l.fn.self.flipped ++ unflipped_to l.fn.self l.i)
