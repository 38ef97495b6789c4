use Rattle.bip_defs.proofs.Uniqueness.{same_parts}
use Rattle.bip_defs.proofs.one_parts.Goals as goal

pub returns : goal.returns
returns c = same_parts
