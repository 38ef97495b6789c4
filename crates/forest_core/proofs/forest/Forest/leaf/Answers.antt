use Rattle.forest_core.proofs.StoredForests.{table_found, table_missed}
use Rattle.forest_core.proofs.forest.Forest.leaf.Goals as goal

pub returns-in-Some-clause-found : goal.returns-in-Some-clause-found
returns-in-Some-clause-found c = rw (← c.self.view_is) (table_found _ _ _ _ c.self.invariant.0.won (rw c.number.ensures at c.in-Some.ensures))

pub returns-in-None-clause-none : goal.returns-in-None-clause-none
returns-in-None-clause-none c = rw (← c.self.view_is) (table_missed _ _ _ c.self.invariant.0.won (rw c.number.ensures at c.in-None.ensures))
