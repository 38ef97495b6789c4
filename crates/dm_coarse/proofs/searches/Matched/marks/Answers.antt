use Rattle.dm_coarse.proofs.searches.Matched.marks.Goals as goal

pub returns-clause-cols : goal.returns-clause-cols
returns-clause-cols g c = c.join.ensures.first

pub returns-clause-rows : goal.returns-clause-rows
returns-clause-rows g c = c.join.ensures.second
