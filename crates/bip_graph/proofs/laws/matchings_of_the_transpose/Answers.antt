use Rattle.bip_graph.proofs.TransposedMatchings.{transposed_matching, transposed_maximum}
use Rattle.bip_graph.proofs.laws.matchings_of_the_transpose.Goals as goal

pub returns : goal.returns
returns c = record { matching = transposed_matching; maximum = transposed_maximum }
