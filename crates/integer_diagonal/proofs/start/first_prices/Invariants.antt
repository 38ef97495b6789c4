use Rattle.integer_diagonal.specs.FirstPrices.{AreFirstPrices}
use Rattle.integer_diagonal.proofs.start.first_prices.Given as goal

abbrev pub invariant-loop-col : goal.invariant-loop-col
invariant-loop-col g l = AreFirstPrices l.weights l.top l.col l.duals l.prices.items
