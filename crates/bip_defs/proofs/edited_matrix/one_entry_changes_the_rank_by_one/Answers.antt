use Rattle.bip_defs.proofs.EditLemmas.{with_rank, without_rank}
use Rattle.bip_defs.proofs.edited_matrix.one_entry_changes_the_rank_by_one.Goals as goal

pub returns-clause-with_place : goal.returns-clause-with_place
returns-clause-with_place c = with_rank

pub returns-clause-without_place : goal.returns-clause-without_place
returns-clause-without_place c = without_rank
