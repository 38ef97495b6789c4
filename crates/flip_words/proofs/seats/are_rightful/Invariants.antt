use Rattle.std.proofs.Common.{take}
use Rattle.bip_defs.specs.Lists.{Among}
use Rattle.flip_words.specs.Seat.{IsRightful, Seat}
use Rattle.flip_words.proofs.seats.are_rightful.Given as goal

abbrev pub invariant-loop-seat : goal.invariant-loop-seat
invariant-loop-seat l = (s : Seat) → Among s (take l.seat-index l.seats) → IsRightful s
