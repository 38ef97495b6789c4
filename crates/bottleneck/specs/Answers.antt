-- What is answered of the bottleneck.
use Rattle.std.specs.Prelude.{◌≢◌}
use Rattle.bip_defs.specs.Bottleneck.{IsBest, IsSingular}
use Rattle.bip_defs.specs.Matrix.{cols}
use Rattle.bip_graph.specs.declared.answers.Bottleneck.{Bottleneck}
use Rattle.bip_graph.specs.declared.answers.Bottleneck.TheVariants.{Best, Rectangular, Singular}
use Rattle.sp_pattern.specs.Weights.{Weighing, weight_at}

-- the answer by its three cases, of which one matrix meets one
abbrev pub IsBottleneck : Weighing → Bottleneck → Type 0
IsBottleneck w Rectangular = w.matrix.rows ≢ cols w.matrix
IsBottleneck w (Singular rank hall) = IsSingular w.matrix rank hall.items
IsBottleneck w (Best pairs least hall) =
    IsBest w.matrix (weight_at w) pairs.items least hall.items
