use Rattle.bip_defs.proofs.Sets.{row_pair}
use Rattle.blocktri.proofs.paired_blocks.mate_of_row.Goals as goal

pub col_of-requires : goal.col_of-requires
col_of-requires c = let (d, h) = row_pair c.args.row c.args.full.now.pairs c.requires in c.is_matching.ensures.rows_within c.args.row d h
