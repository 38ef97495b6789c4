use Rattle.int_set.proofs.RemoveLemmas.{IsClearing}
use Rattle.int_set.proofs.tree.clear.Given as goal

abbrev pub invariant-loop-bit : goal.invariant-loop-bit
invariant-loop-bit l = IsClearing l.fn.words l.words l.first l.number l.bit

abbrev pub decreases-loop-bit : goal.decreases-loop-bit
decreases-loop-bit l = l.bit
