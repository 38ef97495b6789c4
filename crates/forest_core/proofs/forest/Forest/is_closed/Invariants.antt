use Rattle.std.proofs.Common.{ℕ, ◌<◌}
use Rattle.bip_defs.specs.Lists.{Among}
use Rattle.bip_defs.specs.Matching.{rows_of}
use Rattle.bip_defs.specs.Matrix.{IsEntry}
use Rattle.bip_defs.specs.Forest.{InForest}
use Rattle.forest_core.proofs.forest.Forest.is_closed.Given as goal

abbrev pub invariant-loop-number : goal.invariant-loop-number
invariant-loop-number l = (r c : ℕ) → c < l.number → InForest l.self c → IsEntry l.self.matrix r c → Among r (rows_of l.self.claims)
