use Rattle.std.proofs.Common.{◌∙◌, Vec, Global, ℕ, length, ap, arith, refl}
use Rattle.integer_diagonal.proofs.PhaseLemmas.{square_pairing, taken_near}
use Rattle.integer_diagonal.specs.Duals.{priced}
use Rattle.integer_diagonal.proofs.distances.Distances.settle.Goals.{in-Some-mate+in_ok-scan-in-Some-mate, in-None-mate}
use Rattle.integer_diagonal.proofs.distances.Distances.settle.Goals as goal

pub next-requires : goal.next-requires
next-requires g c e h = let near = c.loop-turn.invariant.waiting e h in omega (arith, near.0, c.loop-turn.invariant.within.long)

pub mate-requires-clause-vertex : goal.mate-requires-clause-vertex
mate-requires-clause-vertex g c =
    let near = c.loop-turn.invariant.waiting _ c.in-Some.ensures.taken in
    omega (arith, near.0, c.requires.assignment.rows_are)

pub mate-requires-clause-square : goal.mate-requires-clause-square
mate-requires-clause-square g c = square_pairing (priced c.args.graph.now.weights.now c.args.assignment.now) c.args.assignment.now.matching c.args.graph.now.weights.now.matrix c.requires.assignment refl c.requires.square

pub scan-requires-clause-vertex : goal.scan-requires-clause-vertex
scan-requires-clause-vertex g c =
    omega (arith, c.in-Some-mate.ensures, c.requires.assignment.rows_are)

pub scan-requires-clause-depth : goal.scan-requires-clause-depth
scan-requires-clause-depth g c = (c.loop-turn.invariant.waiting _ c.in-Some.ensures.taken).1

pub scan-requires-clause-near : goal.scan-requires-clause-near
scan-requires-clause-near g c = taken_near c.args.graph.now.weights.now.matrix.rows c.args.assignment.now.top _ _ c.loop-turn.self c.next.new.self c.loop-turn.invariant c.next.ensures.of_far c.in-Some.ensures.taken c.in-Some.ensures.rest

pub loop-turn-preserved : goal.loop-turn-preserved
loop-turn-preserved g c =
    elim c.match-mate.branch [
      | in-Some-mate+in_ok-scan-in-Some-mate b ↦ rw b.self-is b.in_ok-scan-in-Some-mate.ensures
      | in-None-mate b ↦ rw b.self-is (taken_near c.args.graph.now.weights.now.matrix.rows c.args.assignment.now.top _ _ c.loop-turn.self c.next.new.self c.loop-turn.invariant c.next.ensures.of_far c.in-Some.ensures.taken c.in-Some.ensures.rest)
    ]

pub returns-in-None : goal.returns-in-None
returns-in-None g c = record {
  long = ap (λ (z : Vec ℕ Global). length z.items) c.next.ensures.of_far ∙ c.loop-turn.invariant.within.long;
  radius = (let old = c.loop-turn.invariant.within.radius in omega (arith, old, c.next.ensures.radius));
}
