use Rattle.blocktri.proofs.RisingLemmas.{IsRisingTo}
use Rattle.blocktri.proofs.rising_columns.is_rising.Given as goal

abbrev pub invariant-loop-at : goal.invariant-loop-at
invariant-loop-at g l = IsRisingTo (g.N.NumberList.numbers l.ids) l.from l.at l.next
