use Rattle.forest_core.proofs.SettledForests as settling
use Rattle.forest_core.proofs.laws.settled_without_wins.Goals as goal

pub returns : goal.returns
returns c = settling.settled_without_wins
