use Rattle.bip_defs.proofs.Small.{lower_triangle_is}
use Rattle.bip_defs.proofs.examples.lower_triangle_from_its_end.Goals as goal

pub returns : goal.returns
returns c = lower_triangle_is
