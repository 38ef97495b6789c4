use Rattle.std.proofs.Common.{ℕ, ◌+◌, ◌<◌, length}
use Rattle.sp_pattern.specs.Pairs.{AreBelow}
use Rattle.blocktri.proofs.flat_look.greatest.Given as goal

abbrev pub invariant-loop-k : goal.invariant-loop-k
invariant-loop-k g l = record {
  all : AreBelow (l.greatest + 1) l.k (g.N.NumberList.numbers l.ids);
  least : (limit : ℕ) → 0 < limit → AreBelow limit (length (g.N.NumberList.numbers l.ids)) (g.N.NumberList.numbers l.ids) → l.greatest < limit;
}
