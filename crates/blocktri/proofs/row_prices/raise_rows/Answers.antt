use Rattle.std.proofs.Common.{◌≡◌, ◌∙◌, ◌+ℤ◌, ◌<◌, ◌≤◌, ◌≤ℤ◌, ◌<ℤ◌, FitsSigned, ap, arith, length, of_z, pos, rules, slice_index, subst, sym, to_z}
use Rattle.std.specs.Int.{w128}
use Rattle.std.specs.Int.RustNames.{unsigned_abs}
use Rattle.std.proofs.lemmas.Int.{ints, to_z-of_z}
use Rattle.bip_defs.proofs.Slices.{items_same, read_at}
use Rattle.integer_diagonal.specs.Prices.{price}
use Rattle.sp_pattern.specs.Weights.{weight_limit}
use Rattle.blocktri.specs.RowPrices.{AreRaised, asked}
use Rattle.blocktri.proofs.PriceLemmas.{asked_is, gap_less_again, met_more, raised_more, raised_same}
use Rattle.blocktri.proofs.row_prices.raise_rows.Goals.{then-index-least+else-least, else-index-least}
use Rattle.blocktri.proofs.row_prices.raise_rows.Goals as goal

pub loop-i-preserved : goal.loop-i-preserved
loop-i-preserved c =
    let rows = c.args.rows.now in
    let weights = c.args.weights.now in
    let old = c.args.u.now.items in
    let u = c.loop-i.u.items in
    let i = c.loop-i.i in
    let row = c.row.inside.0 in
    let base = to_z w128 (of_z w128 c.args.base) in
    let same : base ≡ c.args.base = to_z-of_z w128 c.args.base c.ranges.base in
    let few : unsigned_abs base ≤ 36893488147419103232 = subst (λ b. unsigned_abs b ≤ 36893488147419103232) (sym same) c.requires.base in
    let z = to_z w128 (of_z w128 (base +ℤ to_z w128 (slice_index weights i))) in
    let fit = (c.type_inv.weights i).fits in
    let what : z ≡ asked weights base i = asked_is (slice_index weights i) base (omega (arith, fit)) few in
    let is : row ≡ slice_index rows i = c.row.view_is ∙ read_at c.index-rows-i.result 0 rows i c.loop-i-test.true c.index-rows-i.is in
    let inside : row < length old = (let lt = c.requires.inside i c.loop-i-test.true in omega (arith, lt, is)) in
    let long = c.loop-i.invariant.prices.long in
    let here : row < length u = omega (arith, inside, long) in
    let read : c.index.result.now ≡ price u row = read_at c.index.result.now (pos 0) u row here c.index.ensures in
    let fits : FitsSigned w128 c.index.result.now = search rules in
    let plain = to_z-of_z w128 c.index.result.now fits in
    elim c.if-index-least.branch [
      | then-index-least+else-least b ↦
          let lt = b.if-index-least.true in
          let le = b.if-least.false in
          let less : price u row <ℤ z = omega (arith, ints, lt, plain, read) in
          let most : z ≤ℤ pos weight_limit = omega (arith, ints, le) in
          rw (items_same b.u-is) record {
            prices = raised_more rows weights base i row z old u is inside what less most c.loop-i.invariant.prices;
            nearer = λ h. gap_less_again c.loop-i.raised old u row z c.loop-i.invariant.nearer c.loop-i.invariant.same here less most;
            same = λ rest. absurd (rest b.raised-is);
            met = λ rest. absurd (rest b.raised-is);
          }
      | else-index-least b ↦
          let ge = b.if-index-least.false in
          rw (items_same b.u-is) record {
            prices = raised_same rows weights base i old u c.loop-i.invariant.prices;
            nearer = λ h. c.loop-i.invariant.nearer (sym b.raised-is ∙ h);
            same = λ rest. c.loop-i.invariant.same (λ h. rest (b.raised-is ∙ h));
            met = λ rest.
                let was = ap (λ z. price z row) (c.loop-i.invariant.same (λ h. rest (b.raised-is ∙ h))) in
                met_more rows weights base i row old is (omega (arith, ints, ge, plain, read, was, what)) (c.loop-i.invariant.met (λ h. rest (b.raised-is ∙ h)));
          }
    ]

pub returns-clause-raised : goal.returns-clause-raised
returns-clause-raised c =
    let rows = c.args.rows.now in
    let weights = c.args.weights.now in
    let old = c.args.u.now.items in
    let u = c.loop-i.u.items in
    let end = c.loop-i-test.false in
    let i = c.loop-i.invariant in
    let same = to_z-of_z w128 c.args.base c.ranges.base in
    let all : c.loop-i.i ≡ length rows = omega (arith, end, c.loop-i.auto.i-end) in
    record {
      prices = subst (λ b. AreRaised rows weights b (length rows) old u) same (subst (λ k. AreRaised rows weights (to_z w128 (of_z w128 c.args.base)) k old u) all i.prices);
      nearer = i.nearer;
      same = i.same;
      met = λ rest k lt. subst (λ b. asked weights b k ≤ℤ price old (slice_index rows k)) same (i.met rest k (omega (arith, lt, end)));
    }
