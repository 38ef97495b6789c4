use Rattle.bip_defs.proofs.Triangular.{upper_triangular}
use Rattle.bip_defs.proofs.triangular_form.decomposition_is_block_upper_triangular.Goals as goal

pub returns : goal.returns
returns c = record { form = upper_triangular }
