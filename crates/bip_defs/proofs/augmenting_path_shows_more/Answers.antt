use Rattle.bip_defs.proofs.Exchange.{longer}
use Rattle.bip_defs.proofs.augmenting_path_shows_more.Goals as goal

pub returns : goal.returns
returns c a m path k e aug = longer a path m k e aug
