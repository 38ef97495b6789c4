use Rattle.karp_sipser.proofs.LongestMatchings.{col_loses_nothing, row_loses_nothing}
use Rattle.karp_sipser.proofs.laws.only_neighbours_lose_nothing.Goals as goal

pub returns : goal.returns
returns c = record { col = col_loses_nothing; row = row_loses_nothing }
