use Rattle.std.proofs.Common.{take}
use Rattle.blocktri.specs.Written.{IsPut}
use Rattle.blocktri.proofs.permuted.write_cuts.Given as goal

abbrev pub invariant-loop-k : goal.invariant-loop-k
invariant-loop-k l = IsPut 0 (take l.k l.cuts) l.fn.out l.out
