use Rattle.bip_defs.proofs.Paired.{strong_hall}
use Rattle.bip_defs.proofs.triangular_form.fine_blocks_are_irreducible.Goals as goal

pub returns : goal.returns
returns c = record { strong_hall = strong_hall }
