use Rattle.std.proofs.lemmas.Int.{ints}
use Rattle.std.proofs.Common.{◌≡◌, ◌∙◌, ap, arith, length-set, pos, ◌-ℤ◌}
use Rattle.bip_defs.proofs.Sets.{entry_col}
use Rattle.bip_defs.proofs.Slices.{read_among}
use Rattle.integer_diagonal.specs.Prices.{price}
use Rattle.sp_pattern.specs.Weights.{weight_at}
use Rattle.blocktri.proofs.PriceLemmas.{column_fits, column_is}
use Rattle.blocktri.proofs.SetLemmas.{by_col, set_all, set_each_at}
use Rattle.blocktri.proofs.row_prices.write_column_prices.Goals as goal

pub weight-requires : goal.weight-requires
weight-requires c =
    let p = c.index-pairs-k.result in
    c.requires.full.matching.entries p.0 p.1 (read_among p c.args.pairs.now c.loop-k.k c.loop-k-test.true c.index-pairs-k.is)

pub bounds-u-row-inside : goal.bounds-u-row-inside
bounds-u-row-inside c =
    let p = c.index-pairs-k.result in
    let lt = (c.requires.full.matching.entries p.0 p.1 (read_among p c.args.pairs.now c.loop-k.k c.loop-k-test.true c.index-pairs-k.is)).0 in
    let is : c.row.inside.0 ≡ p.0 = c.row.view_is in
    let long = c.requires.low.long in
    omega (arith, lt, is, long)

pub overflow_sub-weight : goal.overflow_sub-weight
overflow_sub-weight c =
    let p = c.index-pairs-k.result in
    let w = c.args.weights.now in
    let pair = read_among p c.args.pairs.now c.loop-k.k c.loop-k-test.true c.index-pairs-k.is in
    let at = ap (λ i. price c.args.u.now i) c.row.view_is in
    let high = c.requires.low.within p.0 in
    let least = c.requires.low.columns p.0 p.1 pair in
    column_fits c.weight.result (price c.args.u.now c.row.inside.0) c.weight.type_inv (omega (arith, ints, high, at)) (omega (arith, ints, least, at))

pub index_mut-requires : goal.index_mut-requires
index_mut-requires c =
    let p = c.index-pairs-k.result in
    let w = c.args.weights.now in
    let pair = read_among p c.args.pairs.now c.loop-k.k c.loop-k-test.true c.index-pairs-k.is in
    let lt = entry_col w.matrix p.0 p.1 (c.requires.full.matching.entries p.0 p.1 pair) in
    let is : c.col.inside.0 ≡ p.1 = c.col.view_is in
    let kept = c.loop-k.invariant.long in
    let long = c.requires.long in
    let ok = c.loop-k.v.ok in
    omega (arith, lt, is, kept, long, ok)

pub loop-k-preserved : goal.loop-k-preserved
loop-k-preserved c =
    let p = c.index-pairs-k.result in
    let w = c.args.weights.now in
    let pair = read_among p c.args.pairs.now c.loop-k.k c.loop-k-test.true c.index-pairs-k.is in
    let lt = entry_col w.matrix p.0 p.1 (c.requires.full.matching.entries p.0 p.1 pair) in
    let is : c.col.inside.0 ≡ p.1 = c.col.view_is in
    let kept = c.loop-k.invariant.long in
    let long = c.requires.long in
    let at = ap (λ i. price c.args.u.now i) c.row.view_is in
    let high = c.requires.low.within p.0 in
    let least = c.requires.low.columns p.0 p.1 pair in
    let value = column_is c.weight.result (price c.args.u.now c.row.inside.0) c.weight.type_inv (omega (arith, ints, high, at)) (omega (arith, ints, least, at)) in
    let weight = ap pos c.weight.ensures in
    record {
      long = length-set c.loop-k.v.items c.col.inside.0 _ ∙ kept;
      set = set_each_at (pos 0) (λ q. q.1) (λ q. pos (weight_at w q.0 q.1) -ℤ price c.args.u.now q.0) c.args.pairs.now c.loop-k.k p c.loop-k.v.items c.col.inside.0 _ (by_col (λ q. pos (weight_at w q.0 q.1) -ℤ price c.args.u.now q.0) c.args.pairs.now c.requires.full.matching.cols_differ)
          c.loop-k-test.true c.index-pairs-k.is (omega (arith, lt, is, kept, long)) c.loop-k.invariant.set c.col.view_is (value ∙ (λ i. weight i -ℤ at i));
    }

pub returns-clause-prices : goal.returns-clause-prices
returns-clause-prices c = λ r d h.
    let end = c.loop-k-test.false in
    let w = c.args.weights.now in
    set_all (pos 0) (λ q. q.1) (λ q. pos (weight_at w q.0 q.1) -ℤ price c.args.u.now q.0) c.args.pairs.now c.loop-k.k c.loop-k.v.items (omega (arith, end)) c.loop-k.invariant.set (r, d) h
