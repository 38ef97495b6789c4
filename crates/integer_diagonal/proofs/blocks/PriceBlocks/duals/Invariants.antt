use Rattle.std.proofs.Common.{◌≡◌, length}
use Rattle.integer_diagonal.proofs.blocks.PriceBlocks.duals.Given as goal

abbrev pub invariant-loop-col : goal.invariant-loop-col
invariant-loop-col l = length l.duals.items ≡ l.col
