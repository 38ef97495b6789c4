use Rattle.std.proofs.Common.{◌<◌, ◌∙◌, length, map, arith, sym}
use Rattle.std.proofs.lemmas.List.{get_or-map}
use Rattle.sp_pattern.proofs.Numbers.{length_numbers}
use Rattle.sp_pattern.proofs.SplitLemmas.{length-with_zero, with_zero_at}
use Rattle.sp_pattern.proofs.pairs.InnersPairs.at.Goals as goal

pub returns : goal.returns
returns g c =
    let numbers = map g.I.Id.number c.args.self.now.flat.now in
    let long = length-with_zero numbers in
    let same = length_numbers g.I.Id.number c.args.self.now.flat.now in
    let within = c.requires in
    let lt : c.args.k < length c.args.self.now.flat.now = omega (arith, long, same, within) in
    (λ t. (0, (c.number.ensures ∙ sym (get_or-map g.I.Id.number c.args.self.now.flat.now c.args.k c.index-self-k.result 0 lt)) t)) ∙ sym (with_zero_at numbers c.args.k (omega (arith, long, within)))
