use Rattle.std.proofs.Common.{◌-◌, arith}
use Rattle.sp_pattern.specs.Weights.{weight_at}
use Rattle.bottleneck.proofs.HeavierLemmas.{heavier_pairs, lowered}
use Rattle.bottleneck.proofs.bound.bounded_matching.Goals as goal

pub returns-clause-matching : goal.returns-clause-matching
returns-clause-matching c = lowered c.args.weights.now.matrix c.in_ok-heavy.heavy (weight_at c.args.weights.now) (c.args.bound - 1) c.in_ok-matching.matching c.in_ok-heavy.ensures c.in_ok-matching.ensures.maximum.matching

pub returns-clause-bound : goal.returns-clause-bound
returns-clause-bound c r col h =
    let lt = heavier_pairs c.args.weights.now.matrix c.in_ok-heavy.heavy (weight_at c.args.weights.now) (c.args.bound - 1) c.in_ok-matching.matching.pairs c.in_ok-heavy.ensures c.in_ok-matching.ensures.maximum.matching.matching r col h in
    omega (arith, lt)
