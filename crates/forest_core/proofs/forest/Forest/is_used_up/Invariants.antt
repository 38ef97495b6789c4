use Rattle.std.proofs.Common.{ℕ, take}
use Rattle.bip_defs.specs.Lists.{Among}
use Rattle.bip_defs.specs.Matching.{rows_of}
use Rattle.forest_core.proofs.forest.Forest.is_used_up.Given as goal

abbrev pub invariant-loop-row : goal.invariant-loop-row
invariant-loop-row l = (r : ℕ) → Among r (take l.row-index l.rows) → Among r (rows_of l.self.claims)
