use Rattle.bip_defs.proofs.Paired.{block_square}
use Rattle.bip_defs.proofs.Together.{square_cols_once, square_rows_once}
use Rattle.bip_defs.proofs.triangular_form.fine_blocks_are_square.Goals as goal

pub returns : goal.returns
returns c = record { square = block_square; rows = λ a d is. square_rows_once a d.blocks is.blocks; cols = λ a d is. square_cols_once a d.blocks is.blocks }
