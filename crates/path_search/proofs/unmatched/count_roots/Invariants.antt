use Rattle.std.proofs.Common.{◌≡◌, ◌<◌, ℕ, List, length}
use Rattle.bip_defs.specs.Lists.{Lists}
use Rattle.path_search.specs.Roots.{IsRoot}
use Rattle.path_search.proofs.unmatched.count_roots.Given as goal

abbrev pub invariant-loop-col : goal.invariant-loop-col
invariant-loop-col g l = (w : List ℕ) × Lists (λ c. (c < l.col) × IsRoot (g.S.Side.matrix l.side) (g.F.Opposite.seen l.matching).pairs c) w × (l.count ≡ length w)
