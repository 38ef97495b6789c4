use Rattle.std.proofs.Common.{◌≡◌, ◌∙◌, ◌+◌, ◌-◌, ◌≤◌, ℕ, List, length, map, slice_index, refl, ap, subst, arith}
use Rattle.std.proofs.lemmas.List.{length-map}
use Rattle.bip_defs.specs.Matrix.{cols}
use Rattle.integer_diagonal.proofs.FairnessLemmas.{all_risen, candidate_of}
use Rattle.integer_diagonal.specs.Duals.{priced}
use Rattle.integer_diagonal.proofs.fairness.at_prices.Goals as goal

pub is_fair-requires-clause-candidate : goal.is_fair-requires-clause-candidate
is_fair-requires-clause-candidate g c =
    let w = c.args.weights.now in
    let e = c.in-Some.ensures in
    let top = c.in-Some.top in
    let old = c.args.assignment.top in
    let higher = c.in_ok-duals.duals.items in
    let lower = c.as_slice-high.result.now in
    let is : higher ≡ map (λ a. a + (top - old)) lower = c.in_ok-duals.ensures ∙ ap (λ n. map (λ a. a + n) lower) c.of.ensures in
    let long : length higher ≡ cols c.args.weights.now.matrix = ap (λ (z : List ℕ). length z) is ∙ length-map lower (λ a. a + (top - old)) ∙ ap (λ (z : List ℕ). length z) c.as_slice-high.ensures.value ∙ c.requires.cols in
    candidate_of (priced w c.args.assignment) (record { weighing = w; top = top; prices = c.args.prices.items; duals = higher }) c.args.assignment.matching c.requires.assignment refl e.top
    c.requires.rows long
    (subst (λ (z : List ℕ). (r : ℕ) → slice_index z r ≤ top) c.as_slice-low.ensures.value e.prices)
    (all_risen lower higher (top - old) (top + top) is (λ k. let low = e.duals k in omega (arith, low, e.top)))
