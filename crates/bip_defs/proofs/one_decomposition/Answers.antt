use Rattle.bip_defs.proofs.Uniqueness.{same_decomposition}
use Rattle.bip_defs.proofs.one_decomposition.Goals as goal

pub returns : goal.returns
returns c = same_decomposition
