use Rattle.std.proofs.Common.{◌≤◌, take}
use Rattle.bip_defs.specs.Lists.{Among}
use Rattle.flip_words.specs.Seat.{Seat}
use Rattle.sp_ids.specs.Limits.{max_workers}
use Rattle.flip_words.proofs.seats.count_few.Given as goal

abbrev pub invariant-loop-seat : goal.invariant-loop-seat
invariant-loop-seat l = (s : Seat) → Among s (take l.seat-index l.seats) → s.seats ≤ max_workers
