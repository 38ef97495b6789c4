use Rattle.std.proofs.Common.{subst}
use Rattle.blocktri.proofs.DiagonalLemmas.{square_singular}
use Rattle.bottleneck.specs.Answers.{IsBottleneck}
use Rattle.blocktri.proofs.bottleneck_matching.best_matching.Goals as goal

pub returns-in-Ok-Rectangular-clause-refused : goal.returns-in-Ok-Rectangular-clause-refused
returns-in-Ok-Rectangular-clause-refused g c =
    let w = c.in_ok-weights.weights in (
      tt,
      record {
        compressed = c.in_ok-pattern.ensures.compressed;
        weighing = w;
        weights = c.in_ok-weights.ensures.weights;
        holds = subst (IsBottleneck w) c.in-Ok-Rectangular.field-0-is c.in-Ok-Rectangular.ensures;
      },
    )

pub returns-in-Ok-Singular-clause-refused : goal.returns-in-Ok-Singular-clause-refused
returns-in-Ok-Singular-clause-refused g c =
    let w = c.in_ok-weights.weights in (
      tt,
      record {
        compressed = c.in_ok-pattern.ensures.compressed;
        weighing = w;
        weights = c.in_ok-weights.ensures.weights;
        holds = square_singular w.matrix c.in-Ok-Singular.field-0-0 c.in-Ok-Singular.field-0-1.items (subst (IsBottleneck w) c.in-Ok-Singular.field-0-is c.in-Ok-Singular.ensures);
      },
    )
