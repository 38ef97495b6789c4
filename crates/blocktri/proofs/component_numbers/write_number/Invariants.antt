use Rattle.std.proofs.Common.{map, take}
use Rattle.blocktri.specs.OuterComponents.{IsWrittenAt}
use Rattle.blocktri.proofs.component_numbers.write_number.Given as goal

abbrev pub invariant-loop-k : goal.invariant-loop-k
invariant-loop-k g l = IsWrittenAt (take l.k (map g.I.Id.number l.ids)) l.number l.fn.out l.out
