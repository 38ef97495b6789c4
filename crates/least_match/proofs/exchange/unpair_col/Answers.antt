use Rattle.least_match.proofs.exchange.unpair_col.Goals as goal

pub returns-clause-in_range : goal.returns-clause-in_range
returns-clause-in_range c = (c.mate-row.ensures.pairing.rows_within _ _ c.mate-row.ensures.row, c.mate-row.ensures.pairing.cols_within _ _ c.mate-row.ensures.row)
