use Rattle.std.proofs.Common.{◌+◌, ◌-ℤ◌, pos, rules, arith}
use Rattle.integer_diagonal.proofs.FairnessLemmas.{mapped_all, mapped_push}
use Rattle.integer_diagonal.proofs.answer.col_prices.Goals as goal

pub loop-i-init : goal.loop-i-init
loop-i-init g c = c.in_ok-v.ensures.items

pub loop-i-preserved : goal.loop-i-preserved
loop-i-preserved g c =
    mapped_push (λ o. pos (c.args.top + c.args.top) -ℤ pos o) c.args.duals.items c.loop-i.v.items _ c.loop-i.i c.index.result.now _
    (omega (arith, c.loop-i-test.true, c.len-i-end.ensures, c.args.duals.ok.0)) c.index.ensures c.loop-i.invariant (search (rules, c.signed.ensures)) c.in_ok-push.ensures.items

pub returns : goal.returns
returns g c = mapped_all (λ o. pos (c.args.top + c.args.top) -ℤ pos o) c.args.duals.items c.loop-i.v.items c.loop-i.i (omega (arith, c.loop-i-test.false, c.len-i-end.ensures, c.args.duals.ok.0)) c.loop-i.invariant
