use Rattle.std.proofs.Common.{Vec, Global, ℕ, length, ap, inl, inr, refl, arith}
use Rattle.integer_diagonal.proofs.distances.Distances.next.Goals as goal

pub index-requires : goal.index-requires
index-requires g c =
    let i = c.loop-nearest.invariant in
    let lt = c.requires (c.in-Some.nearest.0, c.in-Some.nearest.1) (i.holds _ ((c.in-Some.ensures.taken _).1 (inl refl))) in
    let same = ap (λ (z : Vec ℕ Global). length z.items) i.of_far in
    omega (arith, lt, same, c.loop-nearest.self.of_far.ok.0)

pub returns-then-eq-clause-taken : goal.returns-then-eq-clause-taken
returns-then-eq-clause-taken g c = c.loop-nearest.invariant.holds _ ((c.in-Some.ensures.taken _).1 (inl refl))

pub returns-then-eq-clause-rest : goal.returns-then-eq-clause-rest
returns-then-eq-clause-rest g c e h = c.loop-nearest.invariant.holds e ((c.in-Some.ensures.taken e).1 (inr h))

pub loop-nearest-preserved : goal.loop-nearest-preserved
loop-nearest-preserved g c =
    let i = c.loop-nearest.invariant in
    record { of_far = i.of_far; radius = i.radius; holds = λ e h. i.holds e ((c.in-Some.ensures.taken e).1 (inr h)) }
