use Rattle.forest_core.proofs.NewPairs.{pairs_run}
use Rattle.forest_core.proofs.RunLemmas.{claim_grows, runs_on}
use Rattle.forest_core.proofs.laws.new_pairs_run.Goals as goal

pub returns : goal.returns
returns c = pairs_run claim_grows runs_on
