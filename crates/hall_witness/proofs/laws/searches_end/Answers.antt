use Rattle.hall_witness.proofs.SearchLemmas.{from_all, searched}
use Rattle.hall_witness.proofs.laws.searches_end.Goals as goal

pub returns-clause-from_all : goal.returns-clause-from_all
returns-clause-from_all c a m marks marks2 q q2 = from_all a m marks marks2 q q2

pub returns-clause-searched : goal.returns-clause-searched
returns-clause-searched c a m marks q = searched a m marks q
