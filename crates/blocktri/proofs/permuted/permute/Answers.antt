use Rattle.std.proofs.Common.{arith}
use Rattle.bip_defs.proofs.Paired.{block_square}
use Rattle.blocktri.specs.BlockForms.{decomposition_of}
use Rattle.blocktri.proofs.DiagonalOrderLemmas.{all_same}
use Rattle.blocktri.proofs.permuted.permute.Goals as goal

pub cuts-requires-2-clause-few : goal.cuts-requires-2-clause-few
cuts-requires-2-clause-few c =
    let (a, form, few_rows, few_columns) = c.requires in
    let same = all_same c.args.form.now.blocks (λ b h. block_square a (decomposition_of c.args.form.now) b form.form.decomposition h) in
    let long = c.lengths_add_up.ensures.columns in
    let n = form.form.cols_are in
    let hc = c.len-2.ensures in
    grind (arith, same, long, n, hc, few_columns)
