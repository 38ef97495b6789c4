use Rattle.std.proofs.Common.{◌≡◌, take}
use Rattle.blocktri.proofs.rising_columns.copied_starts.Given as goal

abbrev pub invariant-loop-at : goal.invariant-loop-at
invariant-loop-at g l = l.copy.items ≡ take l.at (g.N.NumberList.numbers l.numbers)
