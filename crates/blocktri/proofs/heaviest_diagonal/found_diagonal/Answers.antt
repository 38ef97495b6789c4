use Rattle.std.proofs.Common.{ℤ, List, subst, sym, true≢false}
use Rattle.blocktri.proofs.DiagonalLemmas.{square_singular}
use Rattle.blocktri.specs.Diagonals.{AreNarrow}
use Rattle.integer_diagonal.specs.Heaviest.{IsHeaviest, IsHeaviestDiagonal}
use Rattle.integer_diagonal.specs.Prices.{AreFair}
use Rattle.blocktri.proofs.heaviest_diagonal.found_diagonal.Goals as goal

pub returns-then-not-narrow-clause-refused : goal.returns-then-not-narrow-clause-refused
returns-then-not-narrow-clause-refused g c =
    let w = c.in_ok-weights.weights in
    let found : IsHeaviestDiagonal w c.in-Ok-Diagonal.pairs.items c.in-Ok-Diagonal.u.items c.in-Ok-Diagonal.v.items c.in-Ok-Diagonal.sum = subst (IsHeaviest w) c.in-Ok-Diagonal.field-0-is c.in-Ok-Diagonal.ensures in (
      tt,
      record {
        compressed = c.in_ok-pattern.ensures.compressed;
        weighing = w;
        weights = c.in_ok-weights.ensures.weights;
        holds = (
          c.if-not-narrow.ensures.asked (λ e. true≢false (sym e)),
          record {
            pairs = c.in-Ok-Diagonal.pairs.items;
            row_prices = c.in-Ok-Diagonal.u.items;
            column_prices = c.in-Ok-Diagonal.v.items;
            sum = c.in-Ok-Diagonal.sum;
            heaviest = found;
            none = subst (λ m. (x y : List ℤ) → AreFair w m x y → AreNarrow x → AreNarrow y → ⊥) c.as_slice.ensures.value (c.if-not-narrow.ensures.none (λ e. true≢false (sym e)));
          },
        );
      },
    )

pub returns-in-Ok-Rectangular-clause-refused : goal.returns-in-Ok-Rectangular-clause-refused
returns-in-Ok-Rectangular-clause-refused g c =
    let w = c.in_ok-weights.weights in (
      tt,
      record {
        compressed = c.in_ok-pattern.ensures.compressed;
        weighing = w;
        weights = c.in_ok-weights.ensures.weights;
        holds = subst (IsHeaviest w) c.in-Ok-Rectangular.field-0-is c.in-Ok-Rectangular.ensures;
      },
    )

pub returns-in-Ok-Singular-clause-refused : goal.returns-in-Ok-Singular-clause-refused
returns-in-Ok-Singular-clause-refused g c =
    let w = c.in_ok-weights.weights in (
      tt,
      record {
        compressed = c.in_ok-pattern.ensures.compressed;
        weighing = w;
        weights = c.in_ok-weights.ensures.weights;
        holds = square_singular w.matrix c.in-Ok-Singular.field-0-0 c.in-Ok-Singular.field-0-1.items (subst (IsHeaviest w) c.in-Ok-Singular.field-0-is c.in-Ok-Singular.ensures);
      },
    )
