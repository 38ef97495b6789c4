use Rattle.std.proofs.Common.{ℕ, ◌<◌}
use Rattle.blocktri_edits.specs.Edits.{IsWithin, place_at}
use Rattle.blocktri_edits.proofs.edit_places.EditPlaces.first_outside.Given as goal

abbrev pub invariant-loop-at : goal.invariant-loop-at
invariant-loop-at g l = (i : ℕ) → i < l.at → IsWithin l.rows l.columns (place_at l.self i)
