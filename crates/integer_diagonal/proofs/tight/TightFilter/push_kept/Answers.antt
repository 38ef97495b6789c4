use Rattle.std.proofs.Common.{◌≡◌, ◌∙◌, ℕ, nat_eq, refl, sym, ap, arith, rules, Vec, Global}
use Rattle.integer_diagonal.proofs.AmountTests.{equal, unequal}
use Rattle.integer_diagonal.proofs.Cheap.{false_test, true_test}
use Rattle.integer_diagonal.proofs.ScanLemmas.{row_entry}
use Rattle.integer_diagonal.proofs.StartLemmas.{read_at}
use Rattle.integer_diagonal.proofs.TightLemmas.{keeping_no, keeping_yes, weight_here}
use Rattle.integer_diagonal.specs.Duals.{IsPayable, dual, paid, priced}
use Rattle.integer_diagonal.proofs.tight.TightFilter.push_kept.Goals.{then-eq+in_ok-push, else-eq}
use Rattle.integer_diagonal.proofs.tight.TightFilter.push_kept.Goals as goal

pub overflow_sub-self : goal.overflow_sub-self
overflow_sub-self g c =
    let w = c.args.self.now.weights.now in
    let r = c.index-rows-k.result in
    let over : IsPayable (priced w c.args.self.now.assignment.now) g.W.Width.limit = search rules in
    let entry = row_entry w.matrix w.matrix c.args.col c.args.rows.now c.loop-k.k r r refl c.requires.rows c.loop-k-test.true c.index-rows-k.is refl in
    let weight = weight_here w c.args.col c.loop-k.k r c.args.rows.now c.weights_of-weights.result.now c.requires.column c.weights_of-weights.ensures.length c.weights_of-weights.ensures.each c.loop-k-test.true c.index-rows-k.is in
    let small = over.feasible.small r c.args.col entry in
    omega (arith, weight, small)

pub of-cost-requires : goal.of-cost-requires
of-cost-requires g c =
    let over : IsPayable (priced c.args.self.now.weights.now c.args.self.now.assignment.now) g.W.Width.limit = search rules in
    let fits = over.fits 0 in
    omega (arith, fits)

pub index-requires-in-loop-k : goal.index-requires-in-loop-k
index-requires-in-loop-k g c =
    let w = c.args.self.now.weights.now in
    let r = c.index-rows-k.result in
    let over : IsPayable (priced w c.args.self.now.assignment.now) g.W.Width.limit = search rules in
    let entry = row_entry w.matrix w.matrix c.args.col c.args.rows.now c.loop-k.k r r refl c.requires.rows c.loop-k-test.true c.index-rows-k.is refl in
    omega (arith, entry.0, over.feasible.prices_are, c.args.self.now.assignment.now.prices.ok.0, c.row.view_is)

pub add-requires : goal.add-requires
add-requires g c =
    let w = c.args.self.now.weights.now in
    let r = c.index-rows-k.result in
    let over : IsPayable (priced w c.args.self.now.assignment.now) g.W.Width.limit = search rules in
    let entry = row_entry w.matrix w.matrix c.args.col c.args.rows.now c.loop-k.k r r refl c.requires.rows c.loop-k-test.true c.index-rows-k.is refl in
    let price = read_at c.args.self.now.assignment.now.prices.items r c.row.inside.0 c.index-in-loop-k.result.now c.row.view_is (omega (arith, entry.0, over.feasible.prices_are)) c.index-in-loop-k.ensures in
    let fits = over.fits r in
    omega (arith, price, fits, c.of-cost.ensures)

pub loop-k-preserved : goal.loop-k-preserved
loop-k-preserved g c =
    let w = c.args.self.now.weights.now in
    let x = priced w c.args.self.now.assignment.now in
    let col = c.args.col in
    let r = c.index-rows-k.result in
    let over : IsPayable (priced w c.args.self.now.assignment.now) g.W.Width.limit = search rules in
    let entry = row_entry w.matrix w.matrix col c.args.rows.now c.loop-k.k r r refl c.requires.rows c.loop-k-test.true c.index-rows-k.is refl in
    let weight = weight_here w col c.loop-k.k r c.args.rows.now c.weights_of-weights.result.now c.requires.column c.weights_of-weights.ensures.length c.weights_of-weights.ensures.each c.loop-k-test.true c.index-rows-k.is in
    let price = read_at x.prices r c.row.inside.0 c.index-in-loop-k.result.now c.row.view_is (omega (arith, entry.0, over.feasible.prices_are)) c.index-in-loop-k.ensures in
    let least = read_at x.duals col c.col.inside.0 c.index.result.now c.col.view_is (let lt = c.requires.col in let long = over.feasible.duals_are in omega (arith, lt, long)) c.index.ensures in
    let paid_is : paid x r col ≡ c.add.result = omega (arith, price, weight, c.add.ensures, c.of-cost.ensures) in
    elim c.if-eq.branch [
      | then-eq+in_ok-push b ↦ keeping_yes (λ s. nat_eq (paid x s col) (dual x col)) c.loop-k.k r c.args.rows.now c.args.kept.now.items c.loop-k.kept.items _ c.loop-k-test.true c.index-rows-k.is
          (true_test (paid x r col) (dual x col) (paid_is ∙ equal c.add.result c.index.result.now c.eq.result c.eq.ensures b.if-eq.true ∙ least)) c.loop-k.invariant (ap (λ (v : Vec ℕ Global). v.items) b.kept-is ∙ b.in_ok-push.ensures.items)
      | else-eq b ↦ keeping_no (λ s. nat_eq (paid x s col) (dual x col)) c.loop-k.k r c.args.rows.now c.args.kept.now.items c.loop-k.kept.items _ c.loop-k-test.true c.index-rows-k.is
          (false_test (paid x r col) (dual x col) (λ is. unequal c.add.result c.index.result.now c.eq.result c.eq.ensures b.if-eq.false (sym paid_is ∙ is ∙ sym least))) c.loop-k.invariant (ap (λ (v : Vec ℕ Global). v.items) b.kept-is)
    ]
