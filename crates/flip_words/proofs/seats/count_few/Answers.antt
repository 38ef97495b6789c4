use Rattle.std.proofs.Common.{◌≤◌, arith, subst, sym}
use Rattle.std.proofs.lemmas.List.{take_all}
use Rattle.bip_defs.specs.Lists.{Among}
use Rattle.flip_words.specs.Seat.{Seat}
use Rattle.sp_ids.specs.Limits.{max_workers}
use Rattle.flip_words.proofs.Finished.{each_more}
use Rattle.flip_words.proofs.seats.count_few.Goals as goal

pub loop-seat-preserved : goal.loop-seat-preserved
loop-seat-preserved c = each_more (λ (s : Seat). s.seats ≤ max_workers) c.args.seats.now c.loop-seat.seat-index c.seat-item.result c.loop-seat-test.true c.seat-item.is c.loop-seat.invariant c.number.ensures.few

pub returns : goal.returns
returns c = λ s h. c.loop-seat.invariant s (subst (Among s) (sym (take_all c.loop-seat.seat-index c.args.seats.now (omega (arith, c.loop-seat-test.false)))) h)
