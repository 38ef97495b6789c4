use Rattle.std.proofs.Common.{◌∙◌, List, arith, sym, subst}
use Rattle.bip_defs.specs.Bottleneck.{IsFull, IsLeastWeight}
use Rattle.bip_defs.specs.Lists.{IsRising}
use Rattle.bip_defs.specs.Matching.{cols_of}
use Rattle.bip_defs.specs.Matrix.{Place}
use Rattle.bip_defs.proofs.FullMatchings.{long_full}
use Rattle.sp_pattern.specs.Weights.{weight_at}
use Rattle.bottleneck.proofs.PairLemmas.{are_entries}
use Rattle.bottleneck.proofs.answer.answered.Goals as goal

pub least_of-least-requires-clause-entries : goal.least_of-least-requires-clause-entries
least_of-least-requires-clause-entries c = are_entries c.args.weights.now.matrix c.args.matching.pairs c.as_slice.result.now c.requires.matching.matching (c.as_slice.ensures.value ∙ c.in_ok-pairs.ensures)

pub with_hall_set-requires-clause-full : goal.with_hall_set-requires-clause-full
with_hall_set-requires-clause-full c =
    let long = c.requires.full in
    subst (λ (z : List Place). IsFull c.args.weights.now.matrix z) (sym c.in_ok-pairs.ensures) (long_full c.args.weights.now.matrix c.args.matching.pairs c.requires.square c.requires.matching.matching (omega (arith, long)))

pub with_hall_set-requires-clause-rising : goal.with_hall_set-requires-clause-rising
with_hall_set-requires-clause-rising c = subst (λ (z : List Place). IsRising (cols_of z)) (sym c.in_ok-pairs.ensures) c.is_matching.ensures.cols_rise

pub with_hall_set-requires-clause-least : goal.with_hall_set-requires-clause-least
with_hall_set-requires-clause-least c =
    subst (IsLeastWeight (weight_at c.args.weights.now) c.in_ok-pairs.pairs.items) (sym c.if-heavier-least.true)
    (subst (λ (z : List Place). IsLeastWeight (weight_at c.args.weights.now) z c.least_of-least.result) c.as_slice.ensures.value c.least_of-least.ensures)
