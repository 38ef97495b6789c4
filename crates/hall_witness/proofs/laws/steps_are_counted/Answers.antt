use Rattle.hall_witness.proofs.StepLemmas.{counted, next_steps, part_steps}
use Rattle.hall_witness.proofs.laws.steps_are_counted.Goals as goal

pub returns-clause-next : goal.returns-clause-next
returns-clause-next c a q q2 k = next_steps a q q2 k

pub returns-clause-part : goal.returns-clause-part
returns-clause-part c a q k = part_steps a q k

pub returns-clause-one : goal.returns-clause-one
returns-clause-one c counts old new = counted counts old new
