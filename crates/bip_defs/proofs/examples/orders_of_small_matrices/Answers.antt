use Rattle.bip_defs.proofs.SmallForms.{from_the_end, from_the_start, not_all, outer_parts}
use Rattle.bip_defs.proofs.examples.orders_of_small_matrices.Goals as goal

pub returns : goal.returns
returns c = record { from_the_end = from_the_end; from_the_start = from_the_start; not_all = not_all; outer_parts = outer_parts }
