use Rattle.bip_defs.proofs.Small.{given_twice, places_in_range}
use Rattle.bip_defs.proofs.examples.given_places.Goals as goal

pub returns : goal.returns
returns c = record { twice = given_twice; in_range = places_in_range }
