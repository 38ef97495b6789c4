use Rattle.std.proofs.Common.{◌∙◌, arith, refl, take_all}
use Rattle.std.proofs.lemmas.List.{take_more}
use Rattle.blocktri.proofs.rising_columns.copied_ids.Goals as goal

pub loop-at-preserved : goal.loop-at-preserved
loop-at-preserved g c =
    let lt = c.loop-at-test.true in
    let len = c.len-at-end.ensures in
    rw (take_more (g.N.NumberList.numbers c.args.numbers) c.loop-at.at 0 (omega (arith, lt, len)), c.in_ok-push.ensures.items, c.loop-at.invariant, c.at.ensures) refl

pub returns : goal.returns
returns g c =
    let f = c.loop-at-test.false in
    let len = c.len-at-end.ensures in
    c.loop-at.invariant ∙ take_all c.loop-at.at (g.N.NumberList.numbers c.args.numbers) (omega (arith, f, len))
