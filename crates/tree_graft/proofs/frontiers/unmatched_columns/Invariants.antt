use Rattle.std.proofs.Common.{◌<◌}
use Rattle.bip_defs.specs.Lists.{Among, Lists}
use Rattle.bip_defs.specs.Matching.{cols_of}
use Rattle.tree_graft.proofs.frontiers.unmatched_columns.Given as goal

abbrev pub invariant-loop-number : goal.invariant-loop-number
invariant-loop-number l = Lists (λ c. (c < l.number) × (¬ Among c (cols_of l.forest.base))) l.columns.items
