use Rattle.std.proofs.Common.{arith}
use Rattle.bip_defs.proofs.Counts.{horizontal_count}
use Rattle.btf_text.proofs.laws.surplus_of_a_report_is_unmatched.Goals as goal

pub returns : goal.returns
returns c a version order pairs least text t =
    let (m, maximum, size) = t.is_decomposition.rank in
    let counts = horizontal_count a m t.decomposition.parts.horizontal_cols t.decomposition.parts.horizontal_rows maximum t.is_decomposition.parts.horizontal_cols t.is_decomposition.parts.horizontal_rows in
    omega (arith, size, counts)
