use Rattle.std.proofs.Common.{◌∙◌, sym, ap, subst, ◌≤◌}
use Rattle.flip_words.specs.Seat.{IsRightful, KnowsTaker, Seat}
use Rattle.sp_ids.specs.Limits.{max_workers}
use Rattle.flip_words.proofs.OwnTrees.{rightful_take}
use Rattle.flip_words.proofs.board.FlipBoard.take.Goals as goal

pub invariant_of-seat : goal.invariant_of-seat
invariant_of-seat c = (c.seat.invariant.0 ∙ sym (ap (λ (s : Seat). s.number) c.exchange.ensures.seat), subst IsRightful (sym c.exchange.ensures.seat) (rightful_take _ _ _ c.seat.invariant.1), subst (λ (s : Seat). s.seats ≤ max_workers) (sym c.exchange.ensures.seat) c.seat.invariant.2)

pub returns-clause-known : goal.returns-clause-known
returns-clause-known c = λ x knew. c.answer.ensures ∙ c.exchange.ensures.known x (subst (λ (s : Seat). KnowsTaker s c.number.result x) (sym c.seat.view_is) (subst (λ r. KnowsTaker c.args.seat.now r x) (sym c.number.ensures) knew))
