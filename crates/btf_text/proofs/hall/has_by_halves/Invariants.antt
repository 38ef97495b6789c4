use Rattle.std.proofs.Common.{◌-◌}
use Rattle.btf_text.proofs.Halves.{IsSearched}
use Rattle.btf_text.proofs.hall.has_by_halves.Given as goal

abbrev pub invariant-loop-len : goal.invariant-loop-len
invariant-loop-len l = IsSearched l.hall l.fn.col l.first l.len

abbrev pub decreases-loop-len : goal.decreases-loop-len
decreases-loop-len l = l.len - 1
