use Rattle.std.proofs.Common.{◌≡◌, ◌+◌, ◌-◌, ◌≤◌, slice_index, refl, subst, arith}
use Rattle.std.proofs.lemmas.List.{get_or_read}
use Rattle.integer_diagonal.proofs.ScanLemmas.{row_entry}
use Rattle.integer_diagonal.proofs.StartLemmas.{IsRaisedTo, cost_here, raising_all, raising_more, read_at, weight_small}
use Rattle.integer_diagonal.specs.Duals.{cost}
use Rattle.integer_diagonal.proofs.start.raise_rows.Goals as goal

pub overflow_sub-top : goal.overflow_sub-top
overflow_sub-top g c = weight_small c.args.weights.now c.args.top c.args.weights.now.matrix c.args.col c.loop-k.k c.rows_of-rows.result.now c.weights_of-weights.result.now refl c.rows_of-rows.ensures.column c.requires.small c.weights_of-weights.ensures.length c.weights_of-weights.ensures.each c.loop-k-test.true

pub sub-requires : goal.sub-requires
sub-requires g c =
    let dual = read_at c.args.duals.now c.args.col c.col.inside.0 c.index-duals-col.result c.col.view_is (omega (arith, c.requires.col, c.requires.duals.duals_are)) c.index-duals-col.is in
    let high = c.requires.duals.high c.args.col c.requires.col in
    let low = c.requires.duals.low c.args.col in
    let costs : c.of.result ≤ c.args.top = omega (arith, c.of.ensures) in
    (omega (arith, dual, high, costs), omega (arith, dual, low, c.requires.fits))

pub raise_row-requires : goal.raise_row-requires
raise_row-requires g c =
    let r = c.index-rows-k.result in
    let entry = row_entry c.args.weights.now.matrix c.args.weights.now.matrix c.args.col c.rows_of-rows.result.now c.loop-k.k r r refl c.rows_of-rows.ensures.rows c.loop-k-test.true c.index-rows-k.is refl in
    omega (arith, entry.0, c.requires.rows, c.loop-k.invariant.long)

pub loop-k-preserved : goal.loop-k-preserved
loop-k-preserved g c =
    let w = c.args.weights.now in
    let n = c.args.col in
    let rows = c.rows_of-rows.result.now in
    let weights = c.weights_of-weights.result.now in
    let k = c.loop-k.k in
    let r = c.index-rows-k.result in
    let o = c.index-duals-col.result in
    let entry = row_entry c.args.weights.now.matrix w.matrix n rows k r r refl c.rows_of-rows.ensures.rows c.loop-k-test.true c.index-rows-k.is refl in
    let read : r ≡ slice_index rows k = get_or_read rows k r c.loop-k-test.true c.index-rows-k.is 0 in
    let costs = cost_here w c.args.top c.args.weights.now.matrix n k r rows weights refl c.rows_of-rows.ensures.column c.weights_of-weights.ensures.length c.weights_of-weights.ensures.each c.loop-k-test.true read in
    let dual = read_at c.args.duals.now n c.col.inside.0 o c.col.view_is (omega (arith, c.requires.col, c.requires.duals.duals_are)) c.index-duals-col.is in
    let covers = c.requires.duals.covers r n c.requires.col entry in
    let small : o ≤ c.args.top + cost c.args.top w r n = omega (arith, dual, covers) in
    let least : c.sub.result ≡ o - (c.args.top - slice_index weights k) = omega (arith, c.sub.ensures, c.of.ensures) in
    raising_more w c.args.top n k o r (slice_index weights k) rows c.args.prices.now c.loop-k.prices c.raise_row.new.prices c.loop-k.invariant c.raise_row.auto.prices read costs small
    (subst (IsRaisedTo c.loop-k.prices c.raise_row.new.prices r) least (record { met = c.raise_row.ensures.met; low = c.raise_row.ensures.low; rise = c.raise_row.ensures.rise }))

pub returns-clause-covers : goal.returns-clause-covers
returns-clause-covers g c =
    let dual = read_at c.args.duals.now c.args.col c.col.inside.0 c.index-duals-col.result c.col.view_is (omega (arith, c.requires.col, c.requires.duals.duals_are)) c.index-duals-col.is in
    raising_all c.args.weights.now c.args.top c.args.weights.now.matrix c.args.col c.loop-k.k c.index-duals-col.result c.rows_of-rows.result.now c.args.prices.now c.loop-k.prices c.args.duals.now c.loop-k.invariant dual c.rows_of-rows.ensures.column (let all = c.loop-k-test.false in omega (arith, all))
