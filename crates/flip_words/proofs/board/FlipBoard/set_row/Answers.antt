use Rattle.std.proofs.Common.{◌∙◌, sym, ap, ◌≤◌, subst}
use Rattle.flip_words.specs.Seat.{Seat}
use Rattle.sp_ids.specs.Limits.{max_workers}
use Rattle.flip_words.proofs.OwnTrees.{rightful_set}
use Rattle.flip_words.proofs.board.FlipBoard.set_row.Goals as goal

pub invariant_of-seat : goal.invariant_of-seat
invariant_of-seat c = (
  c.seat.invariant.0 ∙ sym (ap (λ (s : Seat). s.number) c.store.ensures),
  rightful_set c.args.row _ _ c.seat.view_is c.store.ensures c.number-vertex.ensures c.requires.seat c.requires.tree c.requires.took c.seat.invariant.1,
  subst (λ (s : Seat). s.seats ≤ max_workers) (sym c.store.ensures) c.seat.invariant.2,
)
