use Rattle.bip_defs.proofs.Uniqueness.{same_matrix}
use Rattle.bip_defs.proofs.one_matrix.Goals as goal

pub returns : goal.returns
returns c = same_matrix
