use Rattle.blocktri.proofs.OrderLaws.{first_start, last_start, upper}
use Rattle.blocktri.proofs.laws.block_orders_are_block_upper_triangular.Goals as goal

pub returns : goal.returns
returns c = record { upper = upper; first = first_start; last = last_start }
