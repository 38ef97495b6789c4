use Rattle.std.proofs.Common.{arith}
use Rattle.bip_defs.proofs.Counts.{horizontal_count}
use Rattle.bip_graph.proofs.surplus.surplus_is_unmatched.Goals as goal

pub returns : goal.returns
returns c a text t =
    let (m, maximum, count) = t.is_rank in
    let counts = horizontal_count a m t.cols t.rows maximum t.are_cols t.are_rows in
    omega (arith, count, counts)
