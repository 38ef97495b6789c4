use Rattle.bip_defs.proofs.Square.{cols_apart, rows_apart}
use Rattle.bip_defs.proofs.parts_are_apart.Goals as goal

pub returns : goal.returns
returns c = record { rows = rows_apart; cols = cols_apart }
