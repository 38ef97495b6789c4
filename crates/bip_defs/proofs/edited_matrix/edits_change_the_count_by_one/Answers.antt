use Rattle.bip_defs.proofs.EditLemmas.{with_count, without_count}
use Rattle.bip_defs.proofs.edited_matrix.edits_change_the_count_by_one.Goals as goal

pub returns-clause-with_place : goal.returns-clause-with_place
returns-clause-with_place c = with_count

pub returns-clause-without_place : goal.returns-clause-without_place
returns-clause-without_place c = without_count
