use Rattle.std.proofs.Common.{◌+◌, inl, inr, arith}
use Rattle.integer_diagonal.proofs.StartLemmas.{BoundFirst, IsMetIn, greatest_next}
use Rattle.integer_diagonal.proofs.start.greatest.Goals.{then-weight-most, else-weight-most}
use Rattle.integer_diagonal.proofs.start.greatest.Goals as goal

pub loop-weight-preserved : goal.loop-weight-preserved
loop-weight-preserved c =
    let xs = c.args.weights.now in
    let n = c.loop-weight.weight-index in
    let i = c.loop-weight.invariant in
    let next : BoundFirst xs (n + 1) c.if-weight-most.most × IsMetIn xs c.if-weight-most.most =
    elim c.if-weight-most.branch [
      | then-weight-most w ↦ greatest_next xs n c.loop-weight.most c.if-weight-most.most c.loop-weight-test.true i.bound i.met (inl (w.most-is, (let more = w.if-weight-most.true in let is = w.most-is in omega (arith, more, is))))
      | else-weight-most w ↦ greatest_next xs n c.loop-weight.most c.if-weight-most.most c.loop-weight-test.true i.bound i.met (inr (w.most-is, (let low = w.if-weight-most.false in omega (arith, low))))
    ]
    in
    record { bound = next.0; met = next.1 }
