use Rattle.std.proofs.Common.{◌∙◌, arith}
use Rattle.sp_pattern.specs.Weights.{weight_at}
use Rattle.bottleneck.proofs.AnswerLemmas.{not_short}
use Rattle.bottleneck.proofs.HeavierLemmas.{lowered}
use Rattle.bottleneck.proofs.PairLemmas.{are_entries}
use Rattle.bottleneck.proofs.thresholds.raised.Goals as goal

pub least_of-least-requires-clause-entries : goal.least_of-least-requires-clause-entries
least_of-least-requires-clause-entries c = are_entries c.args.weights.now.matrix c.args.matching.pairs c.as_slice.result.now c.requires.matching.matching (c.as_slice.ensures.value ∙ c.in_ok-pairs.ensures)

pub loop-low-preserved-then-size-cols : goal.loop-low-preserved-then-size-cols
loop-low-preserved-then-size-cols c =
    let within = c.loop-low.invariant.within in
    let lt = c.loop-low-test.true in
    let size = c.size.ensures.size in
    let n = c.cols.ensures in
    let less = c.if-size-cols.true in
    record {
      matching = c.loop-low.invariant.matching;
      full = c.loop-low.invariant.full;
      short = record { heavier = c.in_ok-heavier.ensures.heavier; short = omega (arith, less, size, n) };
      within = omega (arith, within, lt);
    }

pub loop-low-preserved : goal.loop-low-preserved
loop-low-preserved c =
    let within = c.loop-low.invariant.within in
    let size = c.size.ensures.size in
    let n = c.cols.ensures in
    let long = c.if-size-cols.false in
    let h = c.in_ok-heavier.ensures.heavier in
    let k = lowered c.args.weights.now.matrix c.in_ok-heavier.heavier.entries (weight_at c.args.weights.now) c.in_ok-heavier.heavier.above c.in_ok-heavier.heavier.maximum h.entries h.maximum.matching in
    record {
      matching = k;
      full = not_short c.args.weights.now.matrix c.in_ok-heavier.heavier.maximum.pairs k.matching (omega (arith, long, size, n));
      short = c.loop-low.invariant.short;
      within = within;
    }
