use Rattle.std.proofs.Common.{◌∙◌, arith, sym}
use Rattle.blocktri.specs.BlockForms.{decomposition_of}
use Rattle.blocktri.proofs.WriteLemmas.{cols_long, few_blocks, rows_long}
use Rattle.blocktri.proofs.orders.lengths_add_up.Goals as goal

pub returns-clause-rows : goal.returns-clause-rows
returns-clause-rows c =
    let (a, is) = c.requires in
    rows_long a (decomposition_of c.args.found.now) (c.orders_are_block_upper_triangular.ensures.rows_once a (decomposition_of c.args.found.now) is.decomposition) ∙ sym is.rows

pub returns-clause-columns : goal.returns-clause-columns
returns-clause-columns c =
    let (a, is) = c.requires in
    cols_long a (decomposition_of c.args.found.now) (c.orders_are_block_upper_triangular.ensures.cols_once a (decomposition_of c.args.found.now) is.decomposition) ∙ sym is.cols_are

pub returns-clause-blocks : goal.returns-clause-blocks
returns-clause-blocks c =
    let (a, is) = c.requires in
    let few = few_blocks a (decomposition_of c.args.found.now) is.decomposition in
    let n = is.cols_are in
    omega (arith, few, n)
