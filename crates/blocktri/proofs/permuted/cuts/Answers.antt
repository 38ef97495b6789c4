use Rattle.std.proofs.Common.{◌+◌, ℕ, List, ap, arith, length}
use Rattle.bip_graph.specs.Orders.{rows_before}
use Rattle.blocktri.specs.Dmperm.{cut_if}
use Rattle.blocktri.proofs.PermutedLemmas.{cut_more}
use Rattle.blocktri.proofs.WriteLemmas.{before_more, before_within}
use Rattle.blocktri.proofs.permuted.cuts.Goals as goal

pub overflow_cast-at : goal.overflow_cast-at
overflow_cast-at c =
    let end = c.len-block-end.ensures in
    let lt = c.loop-block-test.true in
    let more = before_more c.args.form.now.blocks c.loop-block.block (omega (arith, end, lt)) in
    let within = before_within c.args.form.now.blocks (c.loop-block.block + 1) in
    let same = ap (λ (xs : List ℕ). length xs) c.rows.ensures in
    let few = c.requires.few in
    omega (arith, more, within, same, few)

pub overflow_add-at : goal.overflow_add-at
overflow_add-at c =
    let end = c.len-block-end.ensures in
    let lt = c.loop-block-test.true in
    let more = before_more c.args.form.now.blocks c.loop-block.block (omega (arith, end, lt)) in
    let within = before_within c.args.form.now.blocks (c.loop-block.block + 1) in
    let same = ap (λ (xs : List ℕ). length xs) c.rows.ensures in
    let here = c.loop-block.invariant.at_is in
    let few = c.requires.few in
    omega (arith, more, within, same, here, few)

pub loop-block-preserved : goal.loop-block-preserved
loop-block-preserved c =
    let end = c.len-block-end.ensures in
    let lt = c.loop-block-test.true in
    let more = before_more c.args.form.now.blocks c.loop-block.block (omega (arith, end, lt)) in
    let same = ap (λ (xs : List ℕ). length xs) c.rows.ensures in
    let here = c.loop-block.invariant.at_is in
    record {
      at_is = omega (arith, more, same, here);
      cuts_are = cut_more (cut_if c.args.form.now.parts.hc.items 0) (λ i. c.args.horizontal + rows_before c.args.form.now.blocks i) c.loop-block.block c.loop-block.at _ _ here c.loop-block.invariant.cuts_are c.in_ok-push-2.ensures.items;
    }
