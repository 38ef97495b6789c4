use Rattle.blocktri.proofs.PermutedLemmas.{AreMatesBehind}
use Rattle.blocktri.proofs.permuted.row_order.Given as goal

abbrev pub invariant-loop-k : goal.invariant-loop-k
invariant-loop-k l = AreMatesBehind l.matching.pairs l.columns l.rows.items l.k
