use Rattle.bip_defs.proofs.Reaching.{reached_witness}
use Rattle.bip_defs.proofs.reached_columns_are_horizontal.Goals as goal

pub returns : goal.returns
returns c = reached_witness
