use Rattle.std.proofs.Common.{◌<◌}
use Rattle.bip_defs.specs.Lists.{Among, Lists}
use Rattle.bip_defs.specs.Matching.{rows_of}
use Rattle.tree_graft.proofs.frontiers.unclaimed_rows.Given as goal

abbrev pub invariant-loop-number : goal.invariant-loop-number
invariant-loop-number l = Lists (λ r. (r < l.number) × (¬ Among r (rows_of l.forest.claims))) l.rows.items
