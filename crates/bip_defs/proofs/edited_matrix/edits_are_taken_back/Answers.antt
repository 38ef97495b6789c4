use Rattle.bip_defs.proofs.EditLemmas.{with_again, with_comes_back, without_goes_back, without_none}
use Rattle.bip_defs.proofs.edited_matrix.edits_are_taken_back.Goals as goal

pub returns-clause-with_again : goal.returns-clause-with_again
returns-clause-with_again c = with_again

pub returns-clause-without_none : goal.returns-clause-without_none
returns-clause-without_none c = without_none

pub returns-clause-with_back : goal.returns-clause-with_back
returns-clause-with_back c = with_comes_back

pub returns-clause-without_back : goal.returns-clause-without_back
returns-clause-without_back c = without_goes_back
