use Rattle.std.proofs.Common.{arith, map}
use Rattle.std.proofs.lemmas.List.{length-map}
use Rattle.bip_defs.proofs.Slices.{number_at}
use Rattle.blocktri.proofs.WriteLemmas.{put_more}
use Rattle.blocktri.proofs.write.write_at.Goals as goal

pub loop-k-preserved : goal.loop-k-preserved
loop-k-preserved g c =
    let numbers = map g.I.Id.number c.args.ids.now in
    let long = length-map c.args.ids.now g.I.Id.number in
    let lt = c.loop-k-test.true in
    let room = c.requires in
    put_more c.args.at c.loop-k.k c.number.result numbers c.args.out.now c.loop-k.out (omega (arith, long, lt)) (omega (arith, long, room)) (number_at g.I.Id.number _ c.args.ids.now _ _ 0 lt c.index-ids-k.is c.number.ensures) c.loop-k.invariant
