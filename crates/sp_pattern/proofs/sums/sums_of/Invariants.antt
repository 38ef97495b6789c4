use Rattle.sp_pattern.proofs.SumLemmas.{AreSumsSoFar}
use Rattle.sp_pattern.proofs.sums.sums_of.Given as goal

abbrev pub invariant-loop-k : goal.invariant-loop-k
invariant-loop-k l = AreSumsSoFar l.triples l.pattern l.k l.sums.items
