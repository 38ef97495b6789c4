use Rattle.flip_words.specs.Seat.{IsRightful}
use Rattle.flip_words.proofs.Finished.{each_more}
use Rattle.flip_words.proofs.seats.are_rightful.Goals as goal

pub loop-seat-preserved : goal.loop-seat-preserved
loop-seat-preserved c = each_more IsRightful c.args.seats.now c.loop-seat.seat-index c.seat-item.result c.loop-seat-test.true c.seat-item.is c.loop-seat.invariant c.is_rightful.ensures
