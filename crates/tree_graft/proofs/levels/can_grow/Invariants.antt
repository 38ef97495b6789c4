use Rattle.std.proofs.Common.{ℕ, ◌<◌}
use Rattle.bip_defs.specs.Lists.{Among}
use Rattle.bip_defs.specs.Matching.{cols_of}
use Rattle.bip_defs.specs.Matrix.{IsEntry}
use Rattle.tree_graft.proofs.levels.can_grow.Given as goal

abbrev pub invariant-loop-number : goal.invariant-loop-number
invariant-loop-number l = (r c : ℕ) → c < l.number → IsEntry l.pattern r c → Among c (cols_of l.matching.pairs)
