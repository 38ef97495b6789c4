use Rattle.std.proofs.Common.{ℕ, take}
use Rattle.bip_defs.specs.Lists.{Among, IsMarked}
use Rattle.least_match.proofs.parts.part_of.Given as goal

abbrev pub invariant-loop-row : goal.invariant-loop-row
invariant-loop-row l = (r : ℕ) → Among r (take l.row-index l.rows) → ¬ IsMarked l.vertical r
