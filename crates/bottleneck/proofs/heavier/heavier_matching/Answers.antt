use Rattle.std.proofs.Common.{◌∙◌, ap, sym}
use Rattle.bip_defs.specs.Matrix.{cols}
use Rattle.sp_pattern.specs.Weights.{weight_at}
use Rattle.bottleneck.proofs.heavier.heavier_matching.Goals as goal
use Rattle.bip_defs.proofs.BottleneckLemmas.{above_cols}

pub pairs_left-requires-clause-cols : goal.pairs_left-requires-clause-cols
pairs_left-requires-clause-cols c = c.requires.matching.cols ∙ sym (ap cols c.in_ok-entries.ensures ∙ above_cols c.args.weights.now.matrix (weight_at c.args.weights.now) c.args.above)
