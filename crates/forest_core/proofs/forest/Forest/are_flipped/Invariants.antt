use Rattle.std.proofs.Common.{ℕ, take}
use Rattle.bip_defs.specs.Lists.{Among}
use Rattle.bip_defs.specs.Forest.{roots_of}
use Rattle.forest_core.proofs.forest.Forest.are_flipped.Given as goal

abbrev pub invariant-loop-root : goal.invariant-loop-root
invariant-loop-root l = (x : ℕ) → Among x (roots_of (take l.root-index l.leaves)) → Among x l.self.flipped
