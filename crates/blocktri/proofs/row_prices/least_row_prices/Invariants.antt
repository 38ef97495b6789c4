use Rattle.blocktri.specs.RowPrices.{AreLow, gap}
use Rattle.blocktri.proofs.row_prices.least_row_prices.Given as goal

abbrev pub invariant-loop-raised : goal.invariant-loop-raised
invariant-loop-raised l = AreLow l.weights l.pairs l.u.items

abbrev pub decreases-loop-raised : goal.decreases-loop-raised
decreases-loop-raised l = gap l.u.items
