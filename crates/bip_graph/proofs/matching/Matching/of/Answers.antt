use Rattle.std.proofs.Common.{◌≡◌, ◌↔◌, Some, sym, subst, rules, length}
use Rattle.bip_defs.specs.Lists.{Among, option_at}
use Rattle.bip_graph.specs.Mates.{Mated}
use Rattle.bip_graph.specs.Matching.{pairs_of}
use Rattle.bip_graph.proofs.Mutual.{mutual_mates, same_pairs}
use Rattle.bip_graph.proofs.matching.Matching.of.Goals as goal

pub invariant_of-result : goal.invariant_of-result
invariant_of-result c =
    let count : c.count_mates-size.result ≡ length (pairs_of c.into_arrays-row_of_col.result.0.items) = search rules in
    mutual_mates c.args.mates c.into_arrays-row_of_col.result.0.items c.into_arrays-row_of_col.result.1.items _ c.into_arrays-row_of_col.ensures.few c.into_arrays-row_of_col.ensures.mates c.requires.mutual count

pub returns-clause-pairs : goal.returns-clause-pairs
returns-clause-pairs c = λ r d. subst (λ (m : Mated). Among (r, d) (pairs_of c.into_arrays-row_of_col.result.0.items) ↔ (option_at m.cols d ≡ Some r)) (sym c.into_arrays-row_of_col.ensures.mates) (same_pairs c.into_arrays-row_of_col.result.0.items r d)
