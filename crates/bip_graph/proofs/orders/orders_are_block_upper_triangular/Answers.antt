use Rattle.bip_graph.proofs.DiagonalBlocks.{cols_go, cols_once, rows_go, rows_once, zero_below}
use Rattle.bip_graph.proofs.orders.orders_are_block_upper_triangular.Goals as goal

pub returns : goal.returns
returns c = record { rows_go = rows_go; cols_go = cols_go; rows_once = rows_once; cols_once = cols_once; below = zero_below }
