use Rattle.std.proofs.Common.{◌<◌}
use Rattle.bip_defs.specs.Lists.{Lists}
use Rattle.path_search.specs.Roots.{IsRoot}
use Rattle.path_search.proofs.unmatched.roots.Given as goal

abbrev pub invariant-loop-number : goal.invariant-loop-number
invariant-loop-number g l = Lists (λ c. (c < l.number) × IsRoot (g.S.Side.matrix l.side) (g.F.Opposite.seen l.matching).pairs c) l.roots.items
