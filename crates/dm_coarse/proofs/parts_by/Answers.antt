use Rattle.dm_coarse.proofs.SplitLemmas.{known_turned, parts_from}
use Rattle.dm_coarse.proofs.parts_by.Goals as goal

pub split-requires-2 : goal.split-requires-2
split-requires-2 c = known_turned c.args.pattern.now c.args.matching.now c.args.horizontal.now c.args.vertical.now ((c.matchings_of_the_transpose.ensures.maximum _ _).0 c.requires.maximum) c.requires

pub returns : goal.returns
returns c = parts_from c.args.pattern.now _ _ c.in_ok-of_rows.ensures c.in_ok-of_cols.ensures
