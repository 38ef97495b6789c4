use Rattle.std.proofs.Common.{◌≡◌, length}
use Rattle.integer_diagonal.proofs.blocks.PriceBlocks.prices.Given as goal

abbrev pub invariant-loop-col : goal.invariant-loop-col
invariant-loop-col l = length l.prices.items ≡ l.weights.matrix.rows
