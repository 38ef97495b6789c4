use Rattle.std.proofs.Common.{arith, map}
use Rattle.std.proofs.lemmas.List.{length-map}
use Rattle.bip_defs.proofs.Slices.{number_at, number_read}
use Rattle.blocktri.proofs.ComponentLemmas.{written_more}
use Rattle.blocktri.proofs.component_numbers.write_number.Goals as goal

pub bounds-out-number : goal.bounds-out-number
bounds-out-number g c =
    let below = c.requires c.number.result (number_read g.I.Id.number _ c.args.ids.now _ _ c.loop-k-test.true c.index-ids-k.is c.number.ensures) in
    let long = c.loop-k.invariant.long in
    omega (arith, below, long)

pub loop-k-preserved : goal.loop-k-preserved
loop-k-preserved g c =
    let numbers = map g.I.Id.number c.args.ids.now in
    let long = length-map c.args.ids.now g.I.Id.number in
    let lt = c.loop-k-test.true in
    written_more numbers c.args.out.now c.loop-k.out c.loop-k.k c.args.number c.number.result (omega (arith, long, lt))
    (number_at g.I.Id.number _ c.args.ids.now _ _ 0 lt c.index-ids-k.is c.number.ensures)
    (c.requires c.number.result (number_read g.I.Id.number _ c.args.ids.now _ _ lt c.index-ids-k.is c.number.ensures)) c.loop-k.invariant
