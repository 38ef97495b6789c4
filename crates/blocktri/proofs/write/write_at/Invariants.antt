use Rattle.std.proofs.Common.{map, take}
use Rattle.blocktri.specs.Written.{IsPut}
use Rattle.blocktri.proofs.write.write_at.Given as goal

abbrev pub invariant-loop-k : goal.invariant-loop-k
invariant-loop-k g l = IsPut l.at (take l.k (map g.I.Id.number l.ids)) l.fn.out l.out
