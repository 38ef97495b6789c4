use Rattle.std.proofs.Common.{arith}
use Rattle.outer_components.proofs.MergeLemmas.{renaming_end, renaming_read, renaming_start}
use Rattle.outer_components.proofs.labels.rename.Goals as goal

pub loop-at-init : goal.loop-at-init
loop-at-init c = renaming_start c.args.numbers.now c.args.labels.now

pub bounds-numbers-label : goal.bounds-numbers-label
bounds-numbers-label c = renaming_read c.args.numbers.now c.args.labels.now c.loop-at.at c.loop-at.labels c.loop-at.invariant c.requires (let lt = c.loop-at-test.true in let l = c.loop-at.invariant.long in omega (arith, lt, l)) c.if-label.true

pub returns : goal.returns
returns c = renaming_end c.args.numbers.now c.args.labels.now c.loop-at.at c.loop-at.labels c.loop-at.invariant (omega (arith, c.loop-at-test.false))
