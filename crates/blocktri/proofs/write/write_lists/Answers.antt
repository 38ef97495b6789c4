use Rattle.std.proofs.Common.{◌+◌, arith, length, map, sym}
use Rattle.std.proofs.lemmas.List.{length-map}
use Rattle.blocktri.proofs.WriteLemmas.{orders_put}
use Rattle.blocktri.proofs.write.write_lists.Goals as goal

pub returns : goal.returns
returns g c =
    let number = g.I.Id.number in
    let first = length-map c.args.first.now number in
    let middle = length-map c.args.middle.now number in
    let last = length-map c.args.last.now number in
    let all = c.requires in
    orders_put (map number c.args.first.now) (map number c.args.middle.now) (map number c.args.last.now) c.args.out.now c.write_at.new.out c.write_at-2.new.out c.write_at-3.new.out (length c.args.first.now) (length c.args.first.now + length c.args.middle.now)
    (omega (arith, first, middle, last, all)) (sym first) (omega (arith, first, middle)) c.write_at.ensures c.write_at-2.ensures c.write_at-3.ensures
