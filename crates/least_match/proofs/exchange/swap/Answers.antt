use Rattle.bip_defs.proofs.Sets.{rising_distinct}
use Rattle.least_match.proofs.ExchangeLemmas.{parted_col, parted_free, parts_then_gives}
use Rattle.least_match.proofs.exchange.swap.Goals as goal

pub pair-requires-clause-row_free : goal.pair-requires-clause-row_free
pair-requires-clause-row_free c = parted_free _ _ _ _ c.unpair_col-own.ensures.pairs c.requires.row

pub pair-requires-clause-col_free : goal.pair-requires-clause-col_free
pair-requires-clause-col_free c = parted_col _ _ _ _ (rising_distinct _ c.unpair_col-own.ensures.pairings.0.cols_rise) c.unpair_col-own.ensures.pairs c.unpair_col-own.ensures.row

pub returns-clause-pairs : goal.returns-clause-pairs
returns-clause-pairs c = parts_then_gives _ _ _ _ _ _ (parted_free _ _ _ _ c.unpair_col-own.ensures.pairs c.requires.row) c.unpair_col-own.ensures.pairs c.pair.ensures.pairs
