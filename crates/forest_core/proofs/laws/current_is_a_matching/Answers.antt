use Rattle.forest_core.proofs.Currents.{current_grown, current_some}
use Rattle.forest_core.proofs.Soundness.{run_grown}
use Rattle.forest_core.proofs.laws.current_is_a_matching.Goals as goal

pub returns : goal.returns
returns c = record {
  some = λ s k. let (m, g) = current_some s k in (m, g.current);
  matching = λ s m k cur. (current_grown s m k cur).matching;
  size = λ s m k cur. (current_grown s m k cur).size;
  grown = run_grown;
}
