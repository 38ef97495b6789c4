use Rattle.std.proofs.Common.{◌≡◌, ◌+◌, ◌*◌, ◌^◌, ◌<◌, ◌≤◌, slice_index, arith}
use Rattle.int_set.specs.Tree.{start_of}
use Rattle.int_set.proofs.Least.{least_goes_down, least_in_word, start_next, start_up}
use Rattle.int_set.proofs.tree.least_bit.Goals as goal

pub loop-preserved : goal.loop-preserved
loop-preserved c =
    let fits : slice_index c.args.words.now c.loop.at < 2 ^ 64 = omega (arith, c.type_inv.words c.loop.at) in
    let b = least_in_word c.args.words.now (start_of c.loop.counter) c.loop.at c.loop.invariant fits in
    let up : start_of (c.loop.counter + 1) ≤ start_of c.args.depth = start_up _ _ (omega arith) in
    let next = start_next c.loop.counter in
    rw next (least_goes_down _ (64 * start_of c.args.depth) (start_of c.loop.counter) _ c.requires.tree b (omega (arith, b.to)))

pub returns : goal.returns
returns c =
    let fits : slice_index c.args.words.now c.loop.at < 2 ^ 64 = omega (arith, c.type_inv.words c.loop.at) in
    let b = least_in_word c.args.words.now (start_of c.loop.counter) c.loop.at c.loop.invariant fits in
    let same : c.loop.counter ≡ c.args.depth = omega arith in
    record { set = b.set; lowest = rw (← same) b.from; least = rw (← same) b.none }
