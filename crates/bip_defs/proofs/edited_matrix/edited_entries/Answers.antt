use Rattle.bip_defs.proofs.EditLemmas.{with_place_entries, without_place_entries}
use Rattle.bip_defs.proofs.edited_matrix.edited_entries.Goals as goal

pub returns-clause-with_place : goal.returns-clause-with_place
returns-clause-with_place c = with_place_entries

pub returns-clause-without_place : goal.returns-clause-without_place
returns-clause-without_place c = without_place_entries
