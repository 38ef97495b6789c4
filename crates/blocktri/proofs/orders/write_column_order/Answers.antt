use Rattle.std.proofs.Common.{◌≡◌, ◌∙◌, ◌<◌, ℕ, List, arith, subst, sym}
use Rattle.bip_defs.specs.Blocks.{all_cols}
use Rattle.bip_defs.specs.Once.{ListsOnce}
use Rattle.bip_graph.specs.Answers.{orders_of}
use Rattle.blocktri.specs.BlockForms.{decomposition_of}
use Rattle.blocktri.proofs.DiagonalOrderLemmas.{three_same}
use Rattle.blocktri.proofs.orders.write_column_order.Goals as goal

pub write_lists-requires : goal.write_lists-requires
write_lists-requires c =
    let long = c.lengths_add_up.ensures.columns in
    let room = c.requires.room in
    rw (c.as_slice-first.ensures.value, c.all_cols.ensures, c.as_slice-last.ensures.value) (omega (arith, long, room))

pub returns-clause-order : goal.returns-clause-order
returns-clause-order c = c.write_lists.ensures ∙ three_same c.as_slice-first.result.now c.all_cols.result.now c.as_slice-last.result.now c.args.found.now.parts.hc.items (all_cols c.args.found.now.blocks) c.args.found.now.parts.vc.items c.as_slice-first.ensures.value c.all_cols.ensures c.as_slice-last.ensures.value

pub returns-clause-once : goal.returns-clause-once
returns-clause-once c =
    let (a, is) = c.requires.some in
    let d = decomposition_of c.args.found.now in
    let written : c.write_lists.new.out ≡ (orders_of d).1 = returns-clause-order c in
    subst (λ (xs : List ℕ). ListsOnce (λ e. e < c.args.found.now.n) xs) (sym written) (subst (λ n. ListsOnce (λ e. e < n) (orders_of d).1) (sym is.cols_are) (c.orders_are_block_upper_triangular.ensures.cols_once a d is.decomposition))
