use Rattle.bip_graph.proofs.DiagonalBlocks.{square_cols_counted, square_rows_counted}
use Rattle.bip_graph.proofs.orders.square_size_counts_the_square_part.Goals as goal

pub returns : goal.returns
returns c = record { rows = square_rows_counted; cols = square_cols_counted }
