use Rattle.blocktri.proofs.GivenPairLemmas.{ArePairedBelow}
use Rattle.blocktri.proofs.given_orders.full_pairing.Given as goal

abbrev pub invariant-loop-col : goal.invariant-loop-col
invariant-loop-col g l = ArePairedBelow l.rows l.col (g.N.NumberList.numbers l.row_of_column) l.full
