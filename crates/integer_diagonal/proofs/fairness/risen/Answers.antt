use Rattle.std.proofs.Common.{◌+◌, arith}
use Rattle.std.proofs.lemmas.List.{get_or_read}
use Rattle.integer_diagonal.proofs.FairnessLemmas.{mapped_all, mapped_push}
use Rattle.integer_diagonal.proofs.fairness.risen.Goals as goal

pub loop-amount-init : goal.loop-amount-init
loop-amount-init g c = c.in_ok-higher.ensures.items

pub add-requires : goal.add-requires
add-requires g c = let low = c.requires c.loop-amount.amount-index in let here = get_or_read c.args.amounts.now c.loop-amount.amount-index c.amount-item.result c.loop-amount-test.true c.amount-item.is 0 in omega (arith, low, here)

pub loop-amount-preserved : goal.loop-amount-preserved
loop-amount-preserved g c = mapped_push (λ a. a + c.args.rise) c.args.amounts.now c.loop-amount.higher.items _ c.loop-amount.amount-index c.amount-item.result _ c.loop-amount-test.true c.amount-item.is c.loop-amount.invariant c.add.ensures c.in_ok-push.ensures.items

pub returns : goal.returns
returns g c = mapped_all (λ a. a + c.args.rise) c.args.amounts.now c.loop-amount.higher.items c.loop-amount.amount-index c.loop-amount-test.false c.loop-amount.invariant
