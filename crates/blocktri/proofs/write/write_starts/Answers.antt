use Rattle.std.proofs.Common.{arith, ap, length, List, ℕ}
use Rattle.blocktri.proofs.WriteLemmas.{start_fits}
use Rattle.blocktri.proofs.write.write_starts.Goals as goal

pub overflow_cast-start : goal.overflow_cast-start
overflow_cast-start c =
    let end = c.len-block-end.ensures in
    let lt = c.loop-block-test.true in
    let fits = start_fits c.args.blocks.now c.args.out.now c.loop-block.out c.loop-block.start c.loop-block.block (omega (arith, end, lt)) c.loop-block.invariant in
    let same = ap (λ (xs : List ℕ). length xs) c.rows.ensures in
    let few = c.requires.few in
    omega (arith, fits, same, few)

pub overflow_add-start : goal.overflow_add-start
overflow_add-start c =
    let end = c.len-block-end.ensures in
    let lt = c.loop-block-test.true in
    let fits = start_fits c.args.blocks.now c.args.out.now c.loop-block.out c.loop-block.start c.loop-block.block (omega (arith, end, lt)) c.loop-block.invariant in
    let same = ap (λ (xs : List ℕ). length xs) c.rows.ensures in
    let few = c.requires.few in
    omega (arith, fits, same, few)
