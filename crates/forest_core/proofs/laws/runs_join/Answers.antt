use Rattle.forest_core.proofs.RunLemmas.{leads_event, leads_here, leads_matrix, leads_on, runs_on, runs_split}
use Rattle.forest_core.proofs.laws.runs_join.Goals as goal

pub returns : goal.returns
returns c = record { here = leads_here; event = leads_event; runs = runs_on; on = leads_on; split = runs_split; matrix = leads_matrix }
