use Rattle.bip_defs.proofs.Paired.{maximum_pairs}
use Rattle.bip_defs.proofs.triangular_form.fine_blocks_have_zero_free_diagonals.Goals as goal

pub returns : goal.returns
returns c = record { pairs = maximum_pairs }
