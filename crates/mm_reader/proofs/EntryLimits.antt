-- What the machine keeps is within the limits.
use Rattle.std.proofs.Common.{◌≡◌, true, arith}
use Rattle.sp_ids.specs.Entries.{Entries}
use Rattle.mm_defs.specs.declared.answers.End.{End}
use Rattle.mm_defs.specs.declared.answers.End.TheVariants.{File, LastEntry}
use Rattle.mm_reader.specs.EntryLimits.{AreWithinLimits}
use Rattle.mm_reader.specs.Machine.{HasRoom, IsReady, is_complete}
use Rattle.mm_reader.specs.declared.machine.Phase.{Phase}
use Rattle.mm_reader.specs.declared.machine.Phase.TheVariants as phases
use Rattle.mm_reader.specs.declared.machine.Position.{Position}
use Rattle.mm_reader.specs.declared.machine.Preamble.{Preamble}

pub room_within : (b : Preamble) (at : Position) (t : Entries) → HasRoom b at t → AreWithinLimits t
room_within b at t room =
    let rows = room.rows in
    let cols = room.cols in
    let few = room.few in
    let in_count = room.in_count in
    let m = room.within.rows in
    let n = room.within.cols in
    let l = room.within.count in
    record { rows = omega (arith, rows, m); cols = omega (arith, cols, n); items = omega (arith, few, in_count, l) }

-- a matrix that is read
pub complete_within : (end : End) (phase : Phase) (t : Entries) → IsReady phase t → is_complete end phase ≡ true → AreWithinLimits t
complete_within File phase t ready is = absurd cc
complete_within LastEntry phases.Banner t ready is = absurd cc
complete_within LastEntry (phases.Sizes h) t ready is = absurd cc
complete_within LastEntry (phases.Entries b at) t ready is = room_within b at t ready
