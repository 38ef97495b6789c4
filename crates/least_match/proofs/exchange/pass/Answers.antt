use Rattle.least_match.proofs.ExchangeLemmas.{parted_free_col, parted_row, parts_then_gives}
use Rattle.least_match.proofs.exchange.pass.Goals as goal

pub pair-requires-clause-row_free : goal.pair-requires-clause-row_free
pair-requires-clause-row_free c = parted_row _ _ _ c.unpair_col-row.ensures.pairs

pub pair-requires-clause-col_free : goal.pair-requires-clause-col_free
pair-requires-clause-col_free c = parted_free_col _ _ _ _ c.unpair_col-row.ensures.pairs c.requires.to

pub returns-clause-pairs : goal.returns-clause-pairs
returns-clause-pairs c = (c.unpair_col-row.result, c.unpair_col-row.ensures.row, parts_then_gives _ _ _ _ _ _ (parted_row _ _ _ c.unpair_col-row.ensures.pairs) c.unpair_col-row.ensures.pairs c.pair.ensures.pairs)
