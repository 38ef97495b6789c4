use Rattle.bip_defs.proofs.Sets.{row_pair}
use Rattle.square_components.proofs.part.mate_of.Goals as goal

pub col_of-requires : goal.col_of-requires
col_of-requires c = let (d, on) = row_pair c.args.row c.args.matching.now.pairs c.requires in c.is_matching.ensures.rows_within c.args.row d on
