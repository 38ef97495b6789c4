use Rattle.std.proofs.Common.{◌≤◌, arith}
use Rattle.integer_diagonal.proofs.StartLemmas.{most_all, most_next}
use Rattle.integer_diagonal.proofs.start.greatest_of_all.Goals.{then-here-most, else-here-most}
use Rattle.integer_diagonal.proofs.start.greatest_of_all.Goals as goal

pub loop-col-preserved : goal.loop-col-preserved
loop-col-preserved c =
    let w = c.args.weights.now in
    let n = c.loop-col.col in
    let old = c.loop-col.most in
    let here = c.greatest-here.result in
    let new = c.if-here-most.most in
    let both : (old ≤ new) × (here ≤ new) =
    elim c.if-here-most.branch [
      | then-here-most b ↦ (let is = b.most-is in let more = b.if-here-most.true in (omega (arith, is, more), omega (arith, is)))
      | else-here-most b ↦ (let is = b.most-is in let low = b.if-here-most.false in (omega (arith, is), omega (arith, is, low)))
    ]
    in
    most_next w n old here new c.weights_of.result.now c.loop-col.invariant c.weights_of.ensures.length c.weights_of.ensures.each c.greatest-here.ensures.bound both.0 both.1

pub returns : goal.returns
returns c =
    let all = c.loop-col-test.false in
    most_all c.args.weights.now c.loop-col.col c.loop-col.most c.loop-col.invariant (omega (arith, all))
