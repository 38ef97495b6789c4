use Rattle.forest_core.proofs.SettledForests.{grafted_rested, new_forest_rested, rebuilt_rested}
use Rattle.forest_core.proofs.laws.forests_are_rested.Goals as goal

pub returns : goal.returns
returns c = record { new = new_forest_rested; graft = grafted_rested; rebuild = rebuilt_rested }
