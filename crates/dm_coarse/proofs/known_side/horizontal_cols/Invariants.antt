use Rattle.std.proofs.Common.{◌<◌}
use Rattle.bip_defs.specs.Lists.{Lists}
use Rattle.bip_defs.specs.Parts.{IsHorizontalCol}
use Rattle.dm_coarse.proofs.known_side.horizontal_cols.Given as goal

abbrev pub invariant-loop-number : goal.invariant-loop-number
invariant-loop-number l = Lists (λ c. (c < l.number) × IsHorizontalCol l.pattern c) l.columns.items
