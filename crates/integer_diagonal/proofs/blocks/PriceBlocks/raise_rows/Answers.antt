use Rattle.std.proofs.Common.{refl, arith}
use Rattle.integer_diagonal.proofs.ScanLemmas.{row_entry}
use Rattle.integer_diagonal.proofs.blocks.PriceBlocks.raise_rows.Goals as goal

pub index-requires : goal.index-requires
index-requires c =
    let entry = row_entry c.args.weights.now.matrix c.args.weights.now.matrix c.args.col c.rows_of-rows.result.now c.loop-k.k c.index-rows-k.result c.index-rows-k.result refl c.rows_of-rows.ensures.rows c.loop-k-test.true c.index-rows-k.is refl in
    omega (arith, entry.0, c.requires.blocks.of_rows, c.args.self.now.of_row.ok.0, c.number-row.ensures)

pub index-requires-then-index-block : goal.index-requires-then-index-block
index-requires-then-index-block c =
    let entry = row_entry c.args.weights.now.matrix c.args.weights.now.matrix c.args.col c.rows_of-rows.result.now c.loop-k.k c.index-rows-k.result c.index-rows-k.result refl c.rows_of-rows.ensures.rows c.loop-k-test.true c.index-rows-k.is refl in
    omega (arith, entry.0, c.loop-k.invariant, c.loop-k.prices.ok.0, c.number-row.ensures)

pub index_mut-requires : goal.index_mut-requires
index_mut-requires c =
    let entry = row_entry c.args.weights.now.matrix c.args.weights.now.matrix c.args.col c.rows_of-rows.result.now c.loop-k.k c.index-rows-k.result c.index-rows-k.result refl c.rows_of-rows.ensures.rows c.loop-k-test.true c.index-rows-k.is refl in
    omega (arith, entry.0, c.loop-k.invariant, c.loop-k.prices.ok.0, c.number-row.ensures)
