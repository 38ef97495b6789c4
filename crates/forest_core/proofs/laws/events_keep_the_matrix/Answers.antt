use Rattle.forest_core.proofs.RunLemmas.{claims_then_wins_grow, run_grows}
use Rattle.forest_core.proofs.Soundness.{event_matrix, run_matrix}
use Rattle.forest_core.proofs.laws.events_keep_the_matrix.Goals as goal

pub returns : goal.returns
returns c = record {
  event = event_matrix;
  run = run_matrix;
  base = λ s t es a h. (run_grows s t es a h).base;
  flipped = λ s t es a h. (run_grows s t es a h).flipped;
  pairs = claims_then_wins_grow;
}
