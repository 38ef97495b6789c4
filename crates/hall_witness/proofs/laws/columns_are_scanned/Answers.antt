use Rattle.hall_witness.proofs.ScanLemmas.{searching_more}
use Rattle.hall_witness.proofs.SearchLemmas.{together_more}
use Rattle.hall_witness.proofs.laws.columns_are_scanned.Goals as goal

pub returns-clause-column : goal.returns-clause-column
returns-clause-column c a m first old marks marks2 q q2 place = searching_more a m first old marks marks2 q q2 place

pub returns-clause-together : goal.returns-clause-together
returns-clause-together c marks marks2 marks3 q q2 q3 = together_more marks marks2 marks3 q q2 q3
