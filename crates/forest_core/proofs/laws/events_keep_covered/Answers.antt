use Rattle.forest_core.proofs.RunLemmas.{current_covers, leads_covers}
use Rattle.forest_core.proofs.laws.events_keep_covered.Goals as goal

pub returns : goal.returns
returns c = record { runs = leads_covers; current = λ s m k cur. current_covers s m k cur }
