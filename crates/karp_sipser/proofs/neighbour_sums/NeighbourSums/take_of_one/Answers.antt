use Rattle.std.proofs.Common.{◌≡◌, ◌∙◌, ℕ, List, subst}
use Rattle.bip_defs.specs.Lists.{Among}
use Rattle.bip_defs.specs.Matrix.{Matrix, Place}
use Rattle.bip_defs.specs.Start.{ColOfOne}
use Rattle.karp_sipser.proofs.Prefixes.{head_least, of_rest}
use Rattle.karp_sipser.proofs.neighbour_sums.NeighbourSums.take_of_one.Goals as goal

pub returns-in-Some-only_neighbour-clause-taken : goal.returns-in-Some-only_neighbour-clause-taken
returns-in-Some-only_neighbour-clause-taken g c =
    let only = c.in-Some-only_neighbour.ensures.only in
    let ones = c.loop-vertex.invariant.ones in
    record {
      least = ((c.in-Some-only_neighbour.mate, only), λ y o. head_least _ y _ _ c.in-Some.ensures.least c.in-Some.ensures.rising (ones y o));
      only = only;
      ones = λ y ne o. of_rest _ y _ _ c.in-Some.ensures.least (ones y o) ne;
    }

pub loop-vertex-preserved : goal.loop-vertex-preserved
loop-vertex-preserved g c =
    let sums = c.loop-vertex.invariant.sums in
    let a : Matrix = g.S.Side.matrix c.args.side.now in
    let m : List Place = (g.I.Opposite.seen c.args.matching.now).pairs in record {
      sums = record { of_unit = sums.of_unit; long = sums.long; bound = c.in-Some.ensures.bound ∙ sums.bound; sums = sums.sums; short = sums.short };
      ones = λ y o. of_rest _ y _ _ c.in-Some.ensures.least (c.loop-vertex.invariant.ones y o) (λ (e : y ≡ c.in-Some.vertex). c.in_default-only_neighbour.ensures.none (subst (ColOfOne a m) e o));
    }

pub returns-clause-none : goal.returns-clause-none
returns-clause-none g c = λ y o. subst (λ (xs : List ℕ). Among y xs) c.in_default.ensures.none.0 (c.loop-vertex.invariant.ones y o)
