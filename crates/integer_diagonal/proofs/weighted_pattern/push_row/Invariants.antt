use Rattle.std.proofs.Common.{◌≡◌, ◌++◌, length, map, take}
use Rattle.bip_defs.specs.Matrix.{cols}
use Rattle.sp_pattern.specs.Weights.{weight_at}
use Rattle.integer_diagonal.proofs.weighted_pattern.push_row.Given as goal

abbrev pub invariant-loop-k : goal.invariant-loop-k
invariant-loop-k l = record {
  passed : length l.passed.items ≡ cols l.weights.matrix;
  pushed : l.row_weights.items
      ≡ l.fn.row_weights.items ++ map (λ c. weight_at l.weights l.row c) (take l.k l.cols);
}
