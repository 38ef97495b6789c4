use Rattle.std.proofs.Common.{◌≡◌, ◌∙◌, pos, ◌+◌, ◌-ℤ◌, List, length, map, subst, ap, arith, rules, FitsSigned}
use Rattle.std.specs.Int.{w128}
use Rattle.std.proofs.lemmas.Int.{to_z-of_z}
use Rattle.bip_defs.specs.Lists.{Among}
use Rattle.bip_defs.specs.Matrix.{Place, cols}
use Rattle.bip_defs.proofs.Full.{matching_few}
use Rattle.integer_diagonal.proofs.AnswerLemmas.{cheap_matching, fair_prices, mated_full}
use Rattle.integer_diagonal.proofs.Augmented.{dual_small}
use Rattle.integer_diagonal.specs.Duals.{priced}
use Rattle.integer_diagonal.specs.Prices.{total}
use Rattle.integer_diagonal.proofs.answer.diagonal.Goals as goal

pub sum_of-sum-requires-clause-entries : goal.sum_of-sum-requires-clause-entries
sum_of-sum-requires-clause-entries g c r k h =
    let x = priced c.args.weights.now c.args.assignment in
    let m = c.args.assignment.matching.pairs in
    (cheap_matching x m c.requires.assignment.matching).entries r k (subst (λ (z : List Place). Among {X = Place} (r, k) z) (c.as_slice.ensures.value ∙ c.in_ok-pairs.ensures) h)

pub sum_of-sum-requires-clause-few : goal.sum_of-sum-requires-clause-few
sum_of-sum-requires-clause-few g c =
    let x = priced c.args.weights.now c.args.assignment in
    let m = c.args.assignment.matching.pairs in
    let few = matching_few c.args.weights.now.matrix m (cheap_matching x m c.requires.assignment.matching) in
    let same = ap (λ (z : List Place). length z) (c.as_slice.ensures.value ∙ c.in_ok-pairs.ensures) in
    omega (arith, few, same, c.requires.few)

pub row_prices-requires : goal.row_prices-requires
row_prices-requires g c i =
    let low = c.requires.assignment.bounded.prices i in
    let room = c.requires.room in
    omega (arith, low, room)

pub col_prices-requires : goal.col_prices-requires
col_prices-requires g c i =
    let x = priced c.args.weights.now c.args.assignment in
    let low = dual_small x c.args.assignment.matching.pairs i c.requires.assignment.matching c.requires.assignment.bounded in
    let room = c.requires.room in
    omega (arith, low, room)

pub returns : goal.returns
returns g c =
    let x = priced c.args.weights.now c.args.assignment in
    let w = c.args.weights.now in
    let m = c.args.assignment.matching.pairs in
    let k = c.requires.assignment.matching in
    let square : w.matrix.rows ≡ cols w.matrix = c.requires.square in
    let eu : c.in_ok-u.u.items ≡ map (λ p. pos p -ℤ pos c.args.assignment.top) c.args.assignment.prices.items = c.in_ok-u.ensures in
    let ev : c.in_ok-v.v.items ≡ map (λ o. pos (c.args.assignment.top + c.args.assignment.top) -ℤ pos o) c.args.assignment.duals.items = c.in_ok-v.ensures in
    let fits : FitsSigned w128 c.sum_of-sum.result = search rules in
    let lent : pos (total w c.as_slice.result.now) ≡ pos (total w m) = ap (λ (z : List Place). pos (total w z)) (c.as_slice.ensures.value ∙ c.in_ok-pairs.ensures) in
    rw c.in_ok-pairs.ensures record {
      square = square;
      full = mated_full w.matrix m square (cheap_matching x m k) c.requires.all_cols;
      rising = c.is_matching.ensures.cols_rise;
      fair = fair_prices x c.in_ok-u.u.items c.in_ok-v.v.items m c.requires.assignment.feasible k eu ev;
      sum_is = rw (to_z-of_z w128 c.sum_of-sum.result fits) (c.sum_of-sum.ensures ∙ lent);
    }
