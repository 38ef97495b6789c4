use Rattle.bip_defs.proofs.Connected.{same_components}
use Rattle.bip_defs.proofs.connected_components.one_list_of_components.Goals as goal

pub returns : goal.returns
returns c = same_components
