use Rattle.std.proofs.Common.{◌≡◌, ◌∙◌, ap, arith, length-set, pos, ◌-ℤ◌}
use Rattle.bip_defs.proofs.Slices.{read_among}
use Rattle.sp_pattern.specs.Weights.{weight_at, weight_limit}
use Rattle.blocktri.proofs.PriceLemmas.{first_is, first_low}
use Rattle.blocktri.proofs.SetLemmas.{by_row, set_all, set_each_at}
use Rattle.blocktri.proofs.row_prices.first_prices.Goals as goal

pub weight-requires : goal.weight-requires
weight-requires c =
    let p = c.index-pairs-k.result in
    c.requires.diagonal.full.matching.entries p.0 p.1 (read_among p c.args.pairs.now c.loop-k.k c.loop-k-test.true c.index-pairs-k.is)

pub index_mut-requires : goal.index_mut-requires
index_mut-requires c =
    let p = c.index-pairs-k.result in
    let lt = (c.requires.diagonal.full.matching.entries p.0 p.1 (read_among p c.args.pairs.now c.loop-k.k c.loop-k-test.true c.index-pairs-k.is)).0 in
    let is : c.row.inside.0 ≡ p.0 = c.row.view_is in
    let long = c.loop-k.invariant.long in
    let old = c.requires.long in
    let ok = c.loop-k.u.ok in
    omega (arith, lt, is, long, old, ok)

pub loop-k-preserved : goal.loop-k-preserved
loop-k-preserved c =
    let p = c.index-pairs-k.result in
    let w = c.args.weights.now in
    let entry = c.requires.diagonal.full.matching.entries p.0 p.1 (read_among p c.args.pairs.now c.loop-k.k c.loop-k-test.true c.index-pairs-k.is) in
    let lt = entry.0 in
    let is : c.row.inside.0 ≡ p.0 = c.row.view_is in
    let kept = c.loop-k.invariant.long in
    let old = c.requires.long in
    let value = first_is c.weight.result c.weight.type_inv ∙ ap (λ n. pos n -ℤ pos weight_limit) c.weight.ensures in
    record {
      long = length-set c.loop-k.u.items c.row.inside.0 _ ∙ kept;
      set = set_each_at (pos 0) (λ q. q.0) (λ q. pos (weight_at w q.0 q.1) -ℤ pos weight_limit) c.args.pairs.now c.loop-k.k p c.loop-k.u.items c.row.inside.0 _ (by_row (λ q. pos (weight_at w q.0 q.1) -ℤ pos weight_limit) c.args.pairs.now c.requires.diagonal.full.matching.rows_differ)
          c.loop-k-test.true c.index-pairs-k.is (omega (arith, lt, is, kept, old)) c.loop-k.invariant.set c.row.view_is value;
    }

pub returns : goal.returns
returns c =
    let end = c.loop-k-test.false in
    let w = c.args.weights.now in
    first_low w c.args.pairs.now c.loop-k.u.items c.requires.diagonal.full c.requires.diagonal.small (c.loop-k.invariant.long ∙ c.requires.long)
    (set_all (pos 0) (λ q. q.0) (λ q. pos (weight_at w q.0 q.1) -ℤ pos weight_limit) c.args.pairs.now c.loop-k.k c.loop-k.u.items (omega (arith, end)) c.loop-k.invariant.set)
