use Rattle.dm_coarse.proofs.SplitLemmas.{known, rows_told}
use Rattle.dm_coarse.proofs.searches.Matched.vertical_rows.Goals as goal

pub reached_if_maximum-requires : goal.reached_if_maximum-requires
reached_if_maximum-requires c = (c.matchings_of_the_transpose.ensures.matching _ _).0 (known _ _ c.args.self.now.rows c.args.self.now.cols c.args.self.now.of_entries)

pub returns : goal.returns
returns c = rows_told c.args.self.now.pattern.now c.args.self.now.matching.now _ c.reached_if_maximum.ensures
