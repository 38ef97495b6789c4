use Rattle.forest_core.proofs.StoredForests.{if_found, if_missed}
use Rattle.forest_core.proofs.forest.Forest.holder.Goals as goal

pub returns-clause-found : goal.returns-clause-found
returns-clause-found c = rw (← c.self.view_is) (if_found _ _ _ _ c.self.invariant.0.held c.holder.ensures)

pub returns-clause-none : goal.returns-clause-none
returns-clause-none c = rw (← c.self.view_is) (if_missed _ _ _ _ c.self.invariant.0.held c.holder.ensures)
