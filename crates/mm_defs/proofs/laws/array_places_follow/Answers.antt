use Rattle.mm_defs.proofs.ArrayLemmas.{places_first, places_next, places_inside}
use Rattle.mm_defs.proofs.laws.array_places_follow.Goals as goal

pub returns : goal.returns
returns c = record { first = places_first; next = places_next; inside = places_inside }
