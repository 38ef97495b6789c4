use Rattle.bip_defs.proofs.EditLemmas.{as_long_is_maximum, kept_is_maximum}
use Rattle.bip_defs.proofs.edited_matrix.as_many_pairs_are_maximum.Goals as goal

pub returns-clause-kept : goal.returns-clause-kept
returns-clause-kept c = kept_is_maximum

pub returns-clause-as_long : goal.returns-clause-as_long
returns-clause-as_long c = as_long_is_maximum
