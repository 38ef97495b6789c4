use Rattle.std.proofs.Common.{arith}
use Rattle.bip_defs.proofs.Full.{full_maximum}
use Rattle.blocktri.specs.Compressed.{matrix_given}
use Rattle.blocktri.proofs.LookLemmas.{full_rows_maximum}
use Rattle.blocktri.proofs.warm_start.is_complete.Goals as goal

pub returns-then-size-rows : goal.returns-then-size-rows
returns-then-size-rows g c = λ yes.
    let k = c.requires.matching in
    let size = c.size-size.ensures.size in
    let count = c.rows.ensures.count in
    let test = c.if-size-rows.true in
    let high = k.rows in
    full_rows_maximum (matrix_given c.args.matrix.now) c.args.matching.now.pairs k.matching (omega (arith, size, count, test, high))

pub returns-then-size-cols : goal.returns-then-size-cols
returns-then-size-cols g c = λ yes.
    let k = c.requires.matching in
    let size = c.size-size.ensures.size in
    let count = c.cols.ensures.count in
    let test = c.if-size-cols.true in
    let wide = k.cols in
    full_maximum (matrix_given c.args.matrix.now) c.args.matching.now.pairs k.matching (omega (arith, size, count, test, wide))
