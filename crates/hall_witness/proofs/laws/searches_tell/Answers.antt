use Rattle.hall_witness.proofs.MarkLemmas.{searched_witness}
use Rattle.hall_witness.proofs.SearchLemmas.{no_free_row}
use Rattle.hall_witness.proofs.laws.searches_tell.Goals as goal

pub returns-clause-maximum : goal.returns-clause-maximum
returns-clause-maximum c a m marks q i r = no_free_row a m marks q i r

pub returns-clause-witness : goal.returns-clause-witness
returns-clause-witness c a m marks q = searched_witness a m marks q
