use Rattle.hall_witness.proofs.StepLemmas.{few_steps}
use Rattle.hall_witness.proofs.laws.steps_are_few.Goals as goal

pub returns : goal.returns
returns c a w = few_steps a w
