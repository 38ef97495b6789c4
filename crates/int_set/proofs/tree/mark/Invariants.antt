use Rattle.int_set.proofs.InsertLemmas.{IsMarking}
use Rattle.int_set.proofs.tree.mark.Given as goal

abbrev pub invariant-loop-bit : goal.invariant-loop-bit
invariant-loop-bit l = IsMarking l.fn.words l.words l.first l.number l.bit

abbrev pub decreases-loop-bit : goal.decreases-loop-bit
decreases-loop-bit l = l.bit
