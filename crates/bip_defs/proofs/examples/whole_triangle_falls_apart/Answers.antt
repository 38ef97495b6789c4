use Rattle.bip_defs.proofs.SmallForms.{last_column, rows_over_last}
use Rattle.bip_defs.proofs.examples.whole_triangle_falls_apart.Goals as goal

pub returns : goal.returns
returns c = record { part = last_column; rows = rows_over_last }
