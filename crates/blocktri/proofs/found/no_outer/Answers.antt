use Rattle.std.proofs.Common.{arith}
use Rattle.blocktri.proofs.PerfectLemmas.{perfect_components}
use Rattle.blocktri.proofs.found.no_outer.Goals as goal

pub returns : goal.returns
returns c = λ a m is. (c.if-not-is_wanted.false, perfect_components a m c.new.result c.new-2.result is c.new.ensures c.new-2.ensures, rw c.new.ensures (omega arith), rw c.new-2.ensures (omega arith))
