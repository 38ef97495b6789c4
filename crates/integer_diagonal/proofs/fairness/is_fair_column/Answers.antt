use Rattle.std.proofs.Common.{◌≡◌, true, sym, arith, rules, refl}
use Rattle.std.proofs.lemmas.List.{get_or_read}
use Rattle.integer_diagonal.proofs.Cheap.{true_test}
use Rattle.integer_diagonal.proofs.FairnessLemmas.{entry_at, fair_column, fair_more}
use Rattle.integer_diagonal.proofs.StartLemmas.{read_at}
use Rattle.integer_diagonal.specs.Duals.{paid, priced}
use Rattle.integer_diagonal.proofs.fairness.is_fair_column.Goals as goal

pub index-price-requires : goal.index-price-requires
index-price-requires g c =
    let look = entry_at (priced c.args.weights.now c.args.candidate.now) c.args.weights.now.matrix c.args.col c.loop-k.k c.rows_of-rows.result.now c.weights_of-weights.result.now _ c.number-row.result refl c.rows_of-rows.ensures.rows c.rows_of-rows.ensures.column c.weights_of-weights.ensures.length c.weights_of-weights.ensures.each c.loop-k-test.true c.index-rows-k.is c.number-row.ensures in
    omega (arith, look.0.0, c.requires.candidate.prices_are, c.args.candidate.now.prices.ok.0)

pub overflow_sub-candidate : goal.overflow_sub-candidate
overflow_sub-candidate g c =
    let look = entry_at (priced c.args.weights.now c.args.candidate.now) c.args.weights.now.matrix c.args.col c.loop-k.k c.rows_of-rows.result.now c.weights_of-weights.result.now _ c.number-row.result refl c.rows_of-rows.ensures.rows c.rows_of-rows.ensures.column c.weights_of-weights.ensures.length c.weights_of-weights.ensures.each c.loop-k-test.true c.index-rows-k.is c.number-row.ensures in
    let small = c.requires.candidate.small c.number-row.result c.args.col look.0 in
    omega (arith, look.1, small)

pub add-paid-requires : goal.add-paid-requires
add-paid-requires g c =
    let x = priced c.args.weights.now c.args.candidate.now in
    let look = entry_at x c.args.weights.now.matrix c.args.col c.loop-k.k c.rows_of-rows.result.now c.weights_of-weights.result.now _ c.number-row.result refl c.rows_of-rows.ensures.rows c.rows_of-rows.ensures.column c.weights_of-weights.ensures.length c.weights_of-weights.ensures.each c.loop-k-test.true c.index-rows-k.is c.number-row.ensures in
    let price = get_or_read x.prices c.number-row.result c.index-price.result.now (omega (arith, look.0.0, c.requires.candidate.prices_are)) c.index-price.ensures 0 in
    let low = c.requires.candidate.prices c.number-row.result in
    omega (arith, price, low, c.of-cost.ensures, c.requires.room)

pub loop-k-preserved : goal.loop-k-preserved
loop-k-preserved g c =
    let x = priced c.args.weights.now c.args.candidate.now in
    let m = c.args.candidate.now.matching.pairs in
    let row = c.number-row.result in
    let holds : c.is_fair_entry.result ≡ true = search rules in
    let look = entry_at x c.args.weights.now.matrix c.args.col c.loop-k.k c.rows_of-rows.result.now c.weights_of-weights.result.now _ row refl c.rows_of-rows.ensures.rows c.rows_of-rows.ensures.column c.weights_of-weights.ensures.length c.weights_of-weights.ensures.each c.loop-k-test.true c.index-rows-k.is c.number-row.ensures in
    let price = get_or_read x.prices row c.index-price.result.now (omega (arith, look.0.0, c.requires.candidate.prices_are)) c.index-price.ensures 0 in
    let dual_is = read_at x.duals c.args.col c.col.inside.0 c.index-dual.result.now c.col.view_is (omega (arith, c.requires.col, c.requires.candidate.duals_are)) c.index-dual.ensures in
    let paid_is : c.add-paid.result ≡ paid x row c.args.col = omega (arith, price, look.1, c.add-paid.ensures, c.of-cost.ensures) in
    fair_more x m c.args.col c.loop-k.k row c.add-paid.result c.index-dual.result.now c.rows_of-rows.result.now c.loop-k.invariant look.2 paid_is dual_is (c.is_fair_entry.ensures.covers holds) (λ h. c.is_fair_entry.ensures.meets holds (true_test row c.mate_of-mate.result (sym (c.mate_of-mate.ensures row h))))

pub returns : goal.returns
returns g c holds = fair_column (priced c.args.weights.now c.args.candidate.now) c.args.candidate.now.matching.pairs c.args.weights.now.matrix c.args.col c.loop-k.k c.rows_of-rows.result.now refl c.rows_of-rows.ensures.column (let all = c.loop-k-test.false in omega (arith, all)) c.loop-k.invariant
