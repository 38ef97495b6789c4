use Rattle.forest_core.proofs.RunLemmas.{claims_stand, wins_stand}
use Rattle.forest_core.proofs.laws.pairs_stand_in_their_lists.Goals as goal

pub returns : goal.returns
returns c = record { claims = claims_stand; wins = wins_stand }
