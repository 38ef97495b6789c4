use Rattle.forest_core.specs.Inside.{state_of}
use Rattle.forest_core.proofs.StoredForests.{if_missed_in, if_rooted, if_rooted_once}
use Rattle.forest_core.proofs.forest.Forest.root_of_row.Goals as goal

pub returns-clause-found : goal.returns-clause-found
returns-clause-found c = rw (← c.self.view_is) (if_rooted (state_of c.self.inside) _ _ _ c.self.invariant.0.rooted c.root.ensures.root)

pub returns-clause-none : goal.returns-clause-none
returns-clause-none c = rw (← c.self.view_is) (if_missed_in _ _ _ _ c.self.invariant.0.held c.root.ensures.none)

pub returns-clause-only : goal.returns-clause-only
returns-clause-only c = rw (← c.self.view_is) (if_rooted_once (state_of c.self.inside) _ _ _ c.self.invariant.0.sound c.self.invariant.0.rooted c.root.ensures.root)
