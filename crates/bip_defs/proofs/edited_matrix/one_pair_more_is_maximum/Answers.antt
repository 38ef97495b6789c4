use Rattle.bip_defs.proofs.EditLemmas.{longer_is_maximum, pair_is_maximum}
use Rattle.bip_defs.proofs.edited_matrix.one_pair_more_is_maximum.Goals as goal

pub returns-clause-longer : goal.returns-clause-longer
returns-clause-longer c = longer_is_maximum

pub returns-clause-pair : goal.returns-clause-pair
returns-clause-pair c = pair_is_maximum
