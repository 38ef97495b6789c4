use Rattle.bip_defs.proofs.Duality.{hall_maximum}
use Rattle.bip_defs.proofs.hall_set_shows_maximum.Goals as goal

pub returns : goal.returns
returns c = hall_maximum
