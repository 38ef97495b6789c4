use Rattle.std.proofs.Common.{◌≡◌, ◌-ℤ◌, length, pos, take}
use Rattle.bip_defs.specs.Lists.{Among}
use Rattle.bip_defs.specs.Matrix.{Place}
use Rattle.integer_diagonal.specs.Prices.{price}
use Rattle.sp_pattern.specs.Weights.{weight_at}
use Rattle.blocktri.proofs.row_prices.write_column_prices.Given as goal

abbrev pub invariant-loop-k : goal.invariant-loop-k
invariant-loop-k l = record {
  long : length l.v.items ≡ length l.fn.v.items;
  set : (q : Place) → Among q (take l.k l.pairs) → price l.v.items q.1 ≡ (pos (weight_at l.weights q.0 q.1) -ℤ price l.u q.0);
}
