use Rattle.integer_diagonal.proofs.Duality.{no_heavier}
use Rattle.integer_diagonal.proofs.laws.fair_prices_show_heaviest.Goals as goal

pub returns : goal.returns
returns c = no_heavier
