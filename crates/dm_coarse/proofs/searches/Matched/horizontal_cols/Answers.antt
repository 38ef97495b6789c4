use Rattle.dm_coarse.proofs.SplitLemmas.{known}
use Rattle.dm_coarse.proofs.searches.Matched.horizontal_cols.Goals as goal

pub reached_if_maximum-requires : goal.reached_if_maximum-requires
reached_if_maximum-requires c = known _ _ c.args.self.now.rows c.args.self.now.cols c.args.self.now.of_entries
