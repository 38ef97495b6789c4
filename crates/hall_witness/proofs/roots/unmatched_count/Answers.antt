use Rattle.std.proofs.Common.{arith}
use Rattle.bip_defs.proofs.Full.{matching_few}
use Rattle.hall_witness.proofs.roots.unmatched_count.Goals as goal

pub overflow_sub-result : goal.overflow_sub-result
overflow_sub-result g c =
    let few = matching_few (g.S.Side.matrix c.args.side.now) (g.F.Opposite.seen c.args.matching.now).pairs c.requires.matching in
    let size = c.size.ensures in
    let cols = c.cols.ensures in
    omega (arith, few, size, cols)

pub returns : goal.returns
returns g c =
    let few = matching_few (g.S.Side.matrix c.args.side.now) (g.F.Opposite.seen c.args.matching.now).pairs c.requires.matching in
    let size = c.size.ensures in
    let cols = c.cols.ensures in
    omega (arith, few, size, cols)
