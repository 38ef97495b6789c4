use Rattle.std.proofs.Common.{refl}
use Rattle.std.proofs.lemmas.List.{map-id}
use Rattle.bip_defs.specs.Matching.{transposed_places}
use Rattle.sp_pattern.specs.Mirror.{lowered}
use Rattle.sp_pattern.proofs.Both.{from_turned_twice, inside_places, order_numbers, pairs_turned}
use Rattle.sp_pattern.proofs.Mirrored.{lowered_inside}
use Rattle.sp_pattern.proofs.Packed.{same_inside, same_places}
use Rattle.sp_pattern.proofs.pattern.Pattern.lower_part.Goals as goal

pub compress_half-requires-clause-inside : goal.compress_half-requires-clause-inside
compress_half-requires-clause-inside g c = pairs_turned _ _ _ (lowered_inside c.args.n c.args.places.now (inside_places _ _ _ c.requires.inside))

pub returns-in-Some-clause-places : goal.returns-in-Some-clause-places
returns-in-Some-clause-places g c =
    let order = rw c.in-Some.is at c.in_ok-starts.ensures.order in
    from_turned_twice _ _ _ _ _ _ c.in_ok-lower.lower refl refl refl (c.in_ok-lower.ensures.places (transposed_places (lowered c.args.places.now)) (order_numbers _ _ _ _ _ order))

pub compress_half-requires-2-clause-inside : goal.compress_half-requires-2-clause-inside
compress_half-requires-2-clause-inside g c = rw map-id (lowered_inside c.args.n c.args.places.now (inside_places _ _ _ c.requires.inside))

pub returns-in-Some-2-clause-places : goal.returns-in-Some-2-clause-places
returns-in-Some-2-clause-places g c =
    let order = rw c.in-Some-2.is at c.in_ok-starts-2.ensures.order in
    c.in_ok-lower-2.ensures.places (lowered c.args.places.now) (rw map-id at (order_numbers _ _ _ _ _ order))

pub from_columns-requires-clause-inside : goal.from_columns-requires-clause-inside
from_columns-requires-clause-inside g c = same_inside _ _ _ _ c.in_ok-sorted.ensures.same (pairs_turned _ _ _ (lowered_inside c.args.n c.args.places.now (inside_places _ _ _ c.requires.inside)))

pub returns-clause-places : goal.returns-clause-places
returns-clause-places g c = same_places _ _ _ _ _ c.in_ok-sorted.ensures.same c.in_ok-lower-3.ensures.places
