use Rattle.forest_core.proofs.Soundness.{new_forest_sound, run_sound}
use Rattle.forest_core.proofs.laws.events_keep_sound.Goals as goal

pub returns : goal.returns
returns c = record { new = new_forest_sound; runs = run_sound }
