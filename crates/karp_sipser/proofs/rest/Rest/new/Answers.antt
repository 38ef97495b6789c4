use Rattle.std.proofs.Common.{◌≡◌, [], List, ap, sym, subst}
use Rattle.bip_defs.specs.Matching.{transposed_places}
use Rattle.bip_defs.specs.Matrix.{Place, transpose}
use Rattle.bip_graph.specs.Matching.{Pairing}
use Rattle.karp_sipser.specs.NeighbourSums.{HoldsOnes}
use Rattle.karp_sipser.proofs.rest.Rest.new.Goals as goal

pub returns-clause-ones : goal.returns-clause-ones
returns-clause-ones c =
    let none : [] ≡ c.in_ok-matching.matching.pairs = sym (ap (λ (m : Pairing). m.pairs) c.in_ok-matching.ensures) in
    record {
      of_cols = subst (λ (ps : List Place). HoldsOnes c.args.sides.now.pattern.now ps c.in_ok-cols.cols.of_one.members) none c.in_ok-cols.ensures.ones;
      of_rows = subst (λ (ps : List Place). HoldsOnes (transpose c.args.sides.now.pattern.now) (transposed_places ps) c.in_ok-rows.rows.of_one.members) none c.in_ok-rows.ensures.ones;
    }
