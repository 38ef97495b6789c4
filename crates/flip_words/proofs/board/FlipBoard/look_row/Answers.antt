use Rattle.std.proofs.Common.{◌∙◌, sym, ap, subst, ◌≤◌}
use Rattle.bip_defs.specs.Lists.{Among}
use Rattle.flip_words.specs.Seat.{IsRightful, Seat}
use Rattle.sp_ids.specs.Limits.{max_workers}
use Rattle.flip_words.proofs.OwnTrees.{rightful_look}
use Rattle.flip_words.proofs.board.FlipBoard.look_row.Goals as goal

pub invariant_of-seat : goal.invariant_of-seat
invariant_of-seat c = (c.seat.invariant.0 ∙ sym (ap (λ (s : Seat). s.number) c.load.ensures.seat), subst IsRightful (sym c.load.ensures.seat) (rightful_look _ _ _ c.seat.invariant.1), subst (λ (s : Seat). s.seats ≤ max_workers) (sym c.load.ensures.seat) c.seat.invariant.2)

pub returns-clause-set : goal.returns-clause-set
returns-clause-set c = λ x h. c.as_col.ensures ∙ c.load.ensures.set x (subst (λ (s : Seat). Among (c.number.result, x) s.listed.sets) (sym c.seat.view_is) (subst (λ v. Among (v, x) c.args.seat.now.listed.sets) (sym c.number.ensures) h))
