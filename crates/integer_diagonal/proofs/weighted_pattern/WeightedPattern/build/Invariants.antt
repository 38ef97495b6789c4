use Rattle.std.proofs.Common.{◌≡◌, length}
use Rattle.std.specs.Prelude.{slice_index}
use Rattle.bip_defs.specs.Matrix.{cols}
use Rattle.integer_diagonal.specs.RowWeights.{AreRowWeights}
use Rattle.integer_diagonal.proofs.weighted_pattern.WeightedPattern.build.Given as goal

abbrev pub invariant-loop-row : goal.invariant-loop-row
invariant-loop-row l = record {
  passed : length l.passed.items ≡ cols l.weights.matrix;
  rows : AreRowWeights l.weights l.row l.row_starts.items l.row_weights.items;
  last : slice_index l.row_starts.items l.row ≡ length l.row_weights.items;
}
