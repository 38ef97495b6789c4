use Rattle.std.proofs.Common.{◌∙◌, ℕ, List, length, subst, ap, arith, refl}
use Rattle.std.proofs.lemmas.List.{length-replicate}
use Rattle.bip_defs.specs.Lists.{Among}
use Rattle.integer_diagonal.proofs.PhaseLemmas.{square_pairing}
use Rattle.integer_diagonal.specs.Duals.{priced}
use Rattle.integer_diagonal.proofs.distances.Distances.spread.Goals.{then-is_none+in_ok-scan, else-is_none}
use Rattle.integer_diagonal.proofs.distances.Distances.spread.Goals as goal

pub loop-near-init : goal.loop-near-init
loop-near-init g c = record {
  within = record {
    long = ap (λ (z : List ℕ). length z) (c.in_ok-of_far.ensures.items_if_clones_equal (λ y same. same)) ∙ length-replicate {A = ℕ} c.rows.result _ ∙ c.rows.ensures;
    radius = omega (arith, c.zero.ensures);
  };
  waiting = λ e h. absurd (subst (λ (z : List (ℕ × ℕ)). Among e z) c.new.ensures h);
}

pub mate-requires-clause-vertex : goal.mate-requires-clause-vertex
mate-requires-clause-vertex g c =
    omega (arith, c.loop-near-test.true, c.rows-near-end.ensures, c.requires.assignment.rows_are)

pub mate-requires-clause-square : goal.mate-requires-clause-square
mate-requires-clause-square g c = square_pairing (priced c.args.graph.now.weights.now c.args.assignment.now) c.args.assignment.now.matching c.args.graph.now.weights.now.matrix c.requires.assignment refl c.requires.square

pub loop-near-preserved : goal.loop-near-preserved
loop-near-preserved g c =
    elim c.if-is_none.branch [
      | then-is_none+in_ok-scan b ↦ rw b.distances-is b.in_ok-scan.ensures
      | else-is_none b ↦ rw b.distances-is c.loop-near.invariant
    ]
