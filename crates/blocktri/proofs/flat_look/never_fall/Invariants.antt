use Rattle.std.proofs.Common.{◌↔◌, IsTrue, not}
use Rattle.sp_pattern.specs.Columns.{IsNotFalling}
use Rattle.blocktri.proofs.flat_look.never_fall.Given as goal

abbrev pub invariant-loop-k : goal.invariant-loop-k
invariant-loop-k g l = IsTrue (not l.falls) ↔ IsNotFalling (g.N.NumberList.numbers l.starts) 0 l.k
