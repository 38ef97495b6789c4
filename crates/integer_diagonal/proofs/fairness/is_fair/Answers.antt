use Rattle.std.proofs.Common.{arith}
use Rattle.integer_diagonal.proofs.FairnessLemmas.{fair_assigned}
use Rattle.integer_diagonal.specs.Duals.{priced}
use Rattle.integer_diagonal.proofs.fairness.is_fair.Goals as goal

pub returns : goal.returns
returns g c holds =
    let all = c.loop-col-test.false in
    fair_assigned (priced c.args.weights.now c.args.candidate.now) c.args.candidate.now.matching c.requires.candidate (λ d lt. c.loop-col.invariant d (omega (arith, lt, all, c.cols-col-end.ensures)))
