use Rattle.std.proofs.Common.{◌<◌, ◌∙◌, List, arith, sym, subst}
use Rattle.bip_defs.specs.Bottleneck.{IsFull, IsLeastWeight}
use Rattle.bip_defs.specs.Lists.{IsRising}
use Rattle.bip_defs.specs.Matching.{cols_of}
use Rattle.bip_defs.specs.Matrix.{Place, cols}
use Rattle.bip_defs.proofs.FullMatchings.{long_full}
use Rattle.sp_pattern.specs.Weights.{weight_at}
use Rattle.bottleneck.specs.Heavier.{WeighAtLeast}
use Rattle.bottleneck.proofs.AnswerLemmas.{not_short, progress}
use Rattle.bottleneck.proofs.HeavierLemmas.{lowered}
use Rattle.bottleneck.proofs.PairLemmas.{are_entries, positive}
use Rattle.bottleneck.proofs.answer.shown.Goals as goal

pub least_of-least-requires-clause-entries : goal.least_of-least-requires-clause-entries
least_of-least-requires-clause-entries c = are_entries c.args.weights.now.matrix c.args.matching.pairs c.as_slice.result.now c.requires.matching.matching (c.as_slice.ensures.value ∙ c.in_ok-pairs.ensures)

pub least_of-least-requires-clause-bound : goal.least_of-least-requires-clause-bound
least_of-least-requires-clause-bound c = subst (λ (z : List Place). WeighAtLeast (weight_at c.args.weights.now) z c.args.bound) (sym (c.as_slice.ensures.value ∙ c.in_ok-pairs.ensures)) c.requires.bound

pub loop-pairs-init : goal.loop-pairs-init
loop-pairs-init c = record {
  matching = c.requires.matching;
  full = c.requires.full;
  pairs = c.in_ok-pairs.ensures;
  least = subst (λ (z : List Place). IsLeastWeight (weight_at c.args.weights.now) z c.least_of-least.result) (c.as_slice.ensures.value ∙ c.in_ok-pairs.ensures) c.least_of-least.ensures;
}

pub with_hall_set-requires-clause-full : goal.with_hall_set-requires-clause-full
with_hall_set-requires-clause-full c =
    let i = c.loop-pairs.invariant in
    let long = i.full in
    subst (λ (z : List Place). IsFull c.args.weights.now.matrix z) (sym i.pairs) (long_full c.args.weights.now.matrix c.loop-pairs.matching.pairs c.requires.square i.matching.matching (omega (arith, long)))

pub with_hall_set-requires-clause-rising : goal.with_hall_set-requires-clause-rising
with_hall_set-requires-clause-rising c = subst (λ (z : List Place). IsRising (cols_of z)) (sym c.loop-pairs.invariant.pairs) c.is_matching.ensures.cols_rise

pub with_hall_set-requires-clause-least : goal.with_hall_set-requires-clause-least
with_hall_set-requires-clause-least c = subst (λ (z : List Place). IsLeastWeight (weight_at c.args.weights.now) z c.in_ok-heavier.heavier.above) (sym c.loop-pairs.invariant.pairs) (subst (IsLeastWeight (weight_at c.args.weights.now) c.loop-pairs.matching.pairs) (sym c.in_ok-heavier.ensures.above) c.loop-pairs.invariant.least)

pub least_of-least-requires-in-loop-pairs-clause-entries : goal.least_of-least-requires-in-loop-pairs-clause-entries
least_of-least-requires-in-loop-pairs-clause-entries c =
    let k = lowered c.args.weights.now.matrix c.in_ok-heavier.heavier.entries (weight_at c.args.weights.now) c.in_ok-heavier.heavier.above c.in_ok-heavier.heavier.maximum c.in_ok-heavier.ensures.heavier.entries c.in_ok-heavier.ensures.heavier.maximum.matching in
    are_entries c.args.weights.now.matrix c.in_ok-heavier.heavier.maximum.pairs c.as_slice-in-loop-pairs.result.now k.matching (c.as_slice-in-loop-pairs.ensures.value ∙ c.in_ok-pairs-2.ensures)

pub loop-pairs-smaller : goal.loop-pairs-smaller
loop-pairs-smaller c =
    let l = subst (λ (z : List Place). IsLeastWeight (weight_at c.args.weights.now) z c.least_of-least-in-loop-pairs.result) (c.as_slice-in-loop-pairs.ensures.value ∙ c.in_ok-pairs-2.ensures) c.least_of-least-in-loop-pairs.ensures in
    let some = positive (cols c.args.weights.now.matrix) (λ e. c.if-cols-eq0.false (c.cols-cols.ensures ∙ e)) in
    let size = c.size.ensures.size in
    let n = c.cols-cols.ensures in
    let long = c.if-size-cols.false in
    let lt : c.loop-pairs.least < c.least_of-least-in-loop-pairs.result = subst (λ x. x < c.least_of-least-in-loop-pairs.result) c.in_ok-heavier.ensures.above (progress c.args.weights.now.matrix c.in_ok-heavier.heavier.entries (weight_at c.args.weights.now) c.in_ok-heavier.heavier.above c.least_of-least-in-loop-pairs.result c.in_ok-heavier.heavier.maximum.pairs c.in_ok-heavier.ensures.heavier.entries c.in_ok-heavier.ensures.heavier.maximum.matching.matching (omega (arith, size, n, long, some)) l) in
    let fits = c.least_of-least-in-loop-pairs.type_inv in
    omega (arith, lt, fits)

pub loop-pairs-preserved : goal.loop-pairs-preserved
loop-pairs-preserved c =
    let k = lowered c.args.weights.now.matrix c.in_ok-heavier.heavier.entries (weight_at c.args.weights.now) c.in_ok-heavier.heavier.above c.in_ok-heavier.heavier.maximum c.in_ok-heavier.ensures.heavier.entries c.in_ok-heavier.ensures.heavier.maximum.matching in
    let size = c.size.ensures.size in
    let n = c.cols-cols.ensures in
    let long = c.if-size-cols.false in
    record {
      matching = k;
      full = not_short c.args.weights.now.matrix c.in_ok-heavier.heavier.maximum.pairs k.matching (omega (arith, size, n, long));
      pairs = c.in_ok-pairs-2.ensures;
      least = subst (λ (z : List Place). IsLeastWeight (weight_at c.args.weights.now) z c.least_of-least-in-loop-pairs.result) (c.as_slice-in-loop-pairs.ensures.value ∙ c.in_ok-pairs-2.ensures) c.least_of-least-in-loop-pairs.ensures;
    }
