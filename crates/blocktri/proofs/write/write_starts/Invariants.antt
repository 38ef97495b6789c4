use Rattle.blocktri.proofs.WriteLemmas.{AreStartsBelow}
use Rattle.blocktri.proofs.write.write_starts.Given as goal

abbrev pub invariant-loop-block : goal.invariant-loop-block
invariant-loop-block l = AreStartsBelow l.blocks l.fn.out l.out l.start l.block
