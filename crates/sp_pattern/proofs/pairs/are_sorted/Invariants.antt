use Rattle.std.proofs.Common.{◌≡◌, ◌+◌, ◌-◌, ◌<◌, ℕ}
use Rattle.sp_pattern.specs.Pairs.{IsAtMost, pair_at}
use Rattle.sp_pattern.proofs.pairs.are_sorted.Given as goal

abbrev pub invariant-loop-k : goal.invariant-loop-k
invariant-loop-k g l = record {
  last : l.last ≡ pair_at (g.P.Pairs.pairs l.pairs) (l.k - 1);
  sorted : (i : ℕ) → i + 1 < l.k → IsAtMost (pair_at (g.P.Pairs.pairs l.pairs) i) (pair_at (g.P.Pairs.pairs l.pairs) (i + 1));
}
