use Rattle.std.proofs.Common.{arith}
use Rattle.std.proofs.lemmas.List.{length-map}
use Rattle.std.proofs.lemmas.Result.{IfOk-weaker}
use Rattle.sp_pattern.specs.Pairs.{unpacked}
use Rattle.bip_defs.proofs.Transposed.{turned_length}
use Rattle.sp_pattern.proofs.Both.{from_turned_twice, inside_places, inside_turned}
use Rattle.sp_pattern.proofs.Mirrored.{lowered_lower}
use Rattle.sp_pattern.proofs.Packed.{same_inside, same_places}
use Rattle.sp_pattern.proofs.pattern.Pattern.build.Goals as goal

pub from_columns-requires-clause-inside : goal.from_columns-requires-clause-inside
from_columns-requires-clause-inside g c = rw (c.rows-rows.ensures, c.cols-cols.ensures) (inside_turned _ _ _ c.places-places.ensures.in_range)

pub returns-then-are_sorted : goal.returns-then-are_sorted
returns-then-are_sorted g c = IfOk-weaker c.from_columns.result _ _ (λ a h. from_turned_twice _ _ _ _ _ _ a c.rows-rows.ensures c.cols-cols.ensures c.places-places.ensures.places h) c.from_columns.ensures.places

pub from_rows-requires-clause-inside : goal.from_rows-requires-clause-inside
from_rows-requires-clause-inside g c = rw (c.rows-rows.ensures, c.cols-cols.ensures) (inside_places _ _ _ c.places-places.ensures.in_range)

pub from_columns-requires-2-clause-inside : goal.from_columns-requires-2-clause-inside
from_columns-requires-2-clause-inside g c = rw (c.rows-rows.ensures, c.cols-cols.ensures) (same_inside _ _ _ _ c.in_ok-sorted.ensures.same (inside_turned _ _ _ c.places-places.ensures.in_range))

pub from_columns-requires-2-clause-few : goal.from_columns-requires-2-clause-few
from_columns-requires-2-clause-few g c =
    let few = c.places-places.ensures.few in
    let long = turned_length c.places-places.result.now in
    let less = c.in_ok-sorted.ensures.few in
    let same = length-map c.in_ok-sorted.sorted.words.items unpacked in
    omega (arith, few, long, less, same)

pub returns : goal.returns
returns g c = IfOk-weaker c.from_columns-2.result _ _ (λ a h. rw (← c.places-places.ensures.places, ← c.rows-rows.ensures, ← c.cols-cols.ensures) (same_places _ _ _ _ a c.in_ok-sorted.ensures.same h)) c.from_columns-2.ensures.places

pub with_mirror-requires-clause-lower : goal.with_mirror-requires-clause-lower
with_mirror-requires-clause-lower g c = lowered_lower c.rows-rows.result c.places-places.result.now c.in-Some.lower (rw c.in-Some.is at c.in_ok-lower.ensures.places)
