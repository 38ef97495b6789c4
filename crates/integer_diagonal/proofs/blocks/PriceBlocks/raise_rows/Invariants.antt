use Rattle.std.proofs.Common.{◌≡◌, length}
use Rattle.integer_diagonal.proofs.blocks.PriceBlocks.raise_rows.Given as goal

abbrev pub invariant-loop-k : goal.invariant-loop-k
invariant-loop-k l = length l.prices.items ≡ l.fn.weights.matrix.rows
