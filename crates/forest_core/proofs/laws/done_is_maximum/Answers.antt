use Rattle.forest_core.proofs.Ends.{base_is_maximum, ends_at_the_maximum}
use Rattle.forest_core.proofs.laws.done_is_maximum.Goals as goal

pub returns : goal.returns
returns c = record { witness = ends_at_the_maximum; base = base_is_maximum }
