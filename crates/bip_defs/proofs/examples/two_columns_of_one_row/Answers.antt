use Rattle.bip_defs.proofs.Small.{wide_row_is}
use Rattle.bip_defs.proofs.examples.two_columns_of_one_row.Goals as goal

pub returns : goal.returns
returns c = wide_row_is
